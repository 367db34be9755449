pub mod Configs
pub mod Groups
pub mod Children
pub mod Contents
pub mod Line
pub mod Breaks
pub mod Conditions
pub mod Reading
