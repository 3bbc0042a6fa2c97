-- What only bodies and lemmas use: no public clause names any of it.
pub mod Lines
pub mod Picking
pub mod LineEnds
pub mod Telling
pub mod TricksPicking
pub mod Showing
pub mod TagTexts
pub mod Hands
pub mod Endings
