pub mod Rcc8Laws
pub mod PointLaws
pub mod AllenLaws
pub mod Unions
pub mod Numbers
pub mod AllenRanks
pub mod AllenRule
