pub mod Suits
pub mod Reading
pub mod Buffers
pub mod BoardLines
