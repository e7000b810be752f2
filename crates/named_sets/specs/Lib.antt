pub mod Named
pub mod Written
pub mod Kept
pub mod Keys
