pub mod Places
pub mod Sights
pub mod Cores
pub mod Bounds
pub mod Runs
pub mod Steps
