pub mod NetworkText
pub mod LineForms
pub mod NetworkFile
pub mod FormsRead
pub mod Laws
pub use Rattle.network_words.specs.Network
pub use Rattle.network_words.specs.Facts
pub use Rattle.network_words.specs.NetFault
