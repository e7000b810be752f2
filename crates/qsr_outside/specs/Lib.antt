pub mod Counts
pub mod Documents
pub mod InMemory
pub mod Reading
pub mod StoredDocuments
pub mod Writing
