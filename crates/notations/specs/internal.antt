-- What only bodies and lemmas use: no public clause names any of it.
pub mod Parts
pub mod Looks
pub mod Pens
pub mod Titles
