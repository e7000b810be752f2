pub mod Texts
pub mod NamesLine
pub mod FactLines
pub mod WholeFiles
pub mod PrintedLines
pub mod ReadAgain
pub mod Answered
pub mod DistinctNames
