pub mod Worklist
pub mod Propagation
