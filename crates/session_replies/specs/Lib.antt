pub mod Replies
pub mod Drafting
