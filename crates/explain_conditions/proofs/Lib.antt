pub mod KindLemmas
pub mod Appending
pub mod Begun
