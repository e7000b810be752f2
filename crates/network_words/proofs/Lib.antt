pub mod Edges
pub mod Pairs
pub mod Networks
pub mod Refinements
pub mod Meets
pub mod Scenarios
pub mod NetsOfFacts
pub mod Copies
pub mod Existence
mod NumberedNames
