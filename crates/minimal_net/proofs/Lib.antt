mod SetEdges
mod Labels
mod Closures
pub mod Labelled
mod StraightLabels
mod LabelsOfEdges
pub mod NetworkLabels
mod Leading
mod Steps
mod Outcomes
mod Shares
mod Counting
mod Leaving
