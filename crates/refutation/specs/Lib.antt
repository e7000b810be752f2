pub mod TreeFault
pub mod Ends
pub mod Ways
pub mod Traced
pub mod Tracings
pub mod Laws
