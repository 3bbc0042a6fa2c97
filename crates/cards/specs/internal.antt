-- What only bodies and lemmas use: no public clause names any of it.
pub mod Masks
pub mod MaskBits
pub mod PackedMasks
pub mod BalancedInOrder
pub mod Around
pub mod Dealings
pub mod Exchanges
pub mod WeightMasks
pub mod GivenMasks
