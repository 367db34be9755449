pub mod Laws
pub mod MemFiles
pub mod MemCounts
