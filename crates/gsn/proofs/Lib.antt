pub mod Tallies
pub mod UnderWay
pub mod Chains
pub mod LeastSets
pub mod Places
pub mod LeastStatuses
