pub mod Ends
pub mod Serving
pub mod Output
pub mod Spoken
pub mod SinkAfter
pub mod Answers
pub mod Runs
