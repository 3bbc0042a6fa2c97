-- What only bodies and lemmas use: no public clause names any of it.
pub mod LabelBytes
pub mod Sets
pub mod TricksWords
pub mod Kept
