pub mod Appended
pub mod Sinks
pub mod Messages
pub mod Shown
pub mod Fuses
pub mod Writers
