pub mod Asked
pub mod Requests
pub mod Found
pub mod Values
