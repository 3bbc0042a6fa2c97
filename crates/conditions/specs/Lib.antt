pub mod Form
pub mod Limits
pub mod Meaning
pub mod Memory
pub mod Bounds
pub mod Questions
pub mod internal
