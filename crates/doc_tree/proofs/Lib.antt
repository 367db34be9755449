pub mod Levels
pub mod Reading
pub mod Ordered
pub mod Writing
pub mod Newline
pub mod Texts
mod TomlOrder
pub mod Walks
