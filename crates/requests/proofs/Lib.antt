pub mod Apart
pub mod Cards
pub mod Chains
pub mod Faults
pub mod Room
pub mod Places
