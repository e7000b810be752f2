pub mod ScenarioFault
pub mod Entries
pub mod Places
pub mod Laws
