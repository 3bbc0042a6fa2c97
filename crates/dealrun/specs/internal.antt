-- What only bodies and lemmas use: no public clause names any of it.
pub mod Handles
pub mod Joins
pub mod Writing
pub mod Ends
pub mod Causes
