-- What only bodies and lemmas use: no public clause names any of it.
pub mod Groups
