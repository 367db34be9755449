pub mod Truths
pub mod Places
pub mod AtWorld
pub mod Keys
pub mod OneWorld
