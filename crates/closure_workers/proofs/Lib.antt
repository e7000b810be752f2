pub mod DealtSlices
pub mod Looks
pub mod OneRound
pub mod Working
