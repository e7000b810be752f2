pub mod HeldFacts
pub mod Drafts
pub mod Versions
pub mod Stores
pub mod Laws
