pub mod Algebra
pub mod Rows
pub mod OneWorld
