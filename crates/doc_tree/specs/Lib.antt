pub mod formers
pub mod View
pub mod Order
pub mod Written
pub mod Places
