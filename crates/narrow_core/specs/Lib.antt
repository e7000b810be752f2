pub mod Actor
pub mod Machine
pub mod Event
pub mod Run
pub mod Bound
pub mod Laws
