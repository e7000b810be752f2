pub mod FileText
pub mod Steps
