pub mod Compositions
pub mod Composers
pub mod Rows
pub mod Networks
pub mod Stacks
pub mod RuledSteps
pub mod Passes
