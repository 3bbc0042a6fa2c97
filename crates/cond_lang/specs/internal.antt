-- What only bodies and lemmas use: no public clause names any of it.
pub mod Arguments
pub mod Defining
pub mod Growing
pub mod Reading
pub mod Scanning
