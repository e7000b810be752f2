pub mod ListEnds
pub mod Worked
pub mod Trails
pub mod Stacks
pub mod RuledSteps
pub mod StepLists
pub mod Passes
pub mod Halves
