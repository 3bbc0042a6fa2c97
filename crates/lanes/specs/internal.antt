-- What only bodies and lemmas use: no public clause names any of it.
pub mod Rings
pub mod Cores
pub mod Screens
pub mod Rejected
