pub mod FirstItem
pub mod LaterFindings
