pub mod Levels
pub mod Paths
pub mod Closings
