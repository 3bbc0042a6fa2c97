pub mod Makings
pub mod Counting
pub mod Jobs
pub mod Statuses
pub mod FirstRefusal
pub mod Failures
pub mod Lines
pub mod internal
