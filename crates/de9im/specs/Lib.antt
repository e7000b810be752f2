pub mod Matrix
pub mod Scans
pub mod Cuts
pub mod Matrices
pub mod Entries
pub mod Patterns
pub mod Laws
