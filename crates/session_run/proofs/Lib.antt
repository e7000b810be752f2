pub mod Dealt
pub mod Back
pub mod StatedFacts
pub mod Made
