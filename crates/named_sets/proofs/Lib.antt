pub mod ReadSets
pub mod WrittenSets
pub mod KeptLines
pub mod Keys
