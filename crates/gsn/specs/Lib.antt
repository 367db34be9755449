pub mod View
pub mod Incoming
pub mod Marks
pub mod LeastStatuses
