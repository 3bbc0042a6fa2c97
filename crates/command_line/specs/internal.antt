-- What only bodies and lemmas use: no public clause names any of it.
pub mod Rows
pub mod Asking
pub mod Choices
pub mod Readings
