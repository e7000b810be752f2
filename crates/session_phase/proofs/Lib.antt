pub mod Narrowings
pub mod Taken
pub mod SessionLists
