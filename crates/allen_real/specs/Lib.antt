pub mod EndPoints
pub mod Realisation
pub mod Classes
pub mod Laws
