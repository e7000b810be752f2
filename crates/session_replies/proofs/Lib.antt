pub mod FactsOfLines
pub mod KeptAfter
pub mod RepliesOfLines
