pub mod Nodes
pub mod Regions
pub mod Functions
pub mod Made
pub mod Chains
pub mod Pool
