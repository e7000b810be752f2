pub mod FoundWords
pub mod CommandWords
pub mod ClassesFit
pub mod Commands
