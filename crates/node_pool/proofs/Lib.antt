mod Search
pub mod Reduced
mod ChainLemmas
pub mod Values
pub mod Canonical
pub mod MakeLemmas
