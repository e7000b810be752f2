pub mod NamedSessions
pub mod Lines
pub mod Readings
pub mod Fitting
pub mod BytesGiven
