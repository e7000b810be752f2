pub mod Sets
pub mod Rcc8
pub mod Allen
pub mod Point
