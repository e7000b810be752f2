pub mod Lanes
pub mod Nibbles
pub mod Planes
pub mod FastTables
pub mod Kernels
