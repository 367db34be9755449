pub mod Pieces
pub mod MemFiles
pub mod MemShelves
pub mod MemSinks
