pub mod FileTexts
pub mod Steps
