pub mod Certificate
pub mod Parts
pub mod Nodes
pub mod Fields
pub mod Written
pub mod Files
pub mod Laws
