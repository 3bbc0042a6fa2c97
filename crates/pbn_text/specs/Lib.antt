pub mod Games
pub mod Printing
pub mod internal
