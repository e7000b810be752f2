mod Rows
mod LookUps
pub mod Faults
pub mod FirstFaults
mod SingleWords
