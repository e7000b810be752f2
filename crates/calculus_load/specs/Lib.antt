pub mod Given
pub mod Names
pub mod Statements
pub mod TableFile
pub mod TableText
pub mod Laws
