pub mod Lessons
pub mod PredealtHands
pub mod HandFaults
pub mod HandRules
pub mod Requests
pub mod Defaults
pub mod internal
