pub mod Commands
pub mod CommandsRead
pub mod Batches
pub mod Scripts
pub mod Readings
pub mod Readers
