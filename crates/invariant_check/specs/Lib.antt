pub mod View
pub mod Findings
pub mod Searching
pub mod Running
pub mod Targets
