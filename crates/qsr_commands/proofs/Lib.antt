pub mod CommandAnswers
pub mod Working
pub mod Answering
pub mod ScriptsSoFar
pub mod AnsweredSoFar
pub mod ServingRuns
