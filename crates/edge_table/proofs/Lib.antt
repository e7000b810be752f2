pub mod Places
pub mod Rules
pub mod Steps
pub mod Passes
