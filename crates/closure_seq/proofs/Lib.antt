pub mod Closures
pub mod Trails
pub mod InStep
pub mod Standing
pub mod Counted
