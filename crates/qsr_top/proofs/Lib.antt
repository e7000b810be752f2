pub mod OneOutput
pub mod SomeOutput
pub mod Agreeing
