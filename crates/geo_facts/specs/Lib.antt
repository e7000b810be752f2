pub mod LineForm
pub mod PolygonFile
pub mod Relating
pub mod Facts
pub mod Pieces
pub mod Demo
pub mod Laws
