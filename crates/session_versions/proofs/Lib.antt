pub mod Closures
pub mod Numbers
pub mod Stores
pub mod Proper
