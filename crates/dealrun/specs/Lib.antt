-- The first six are in the crates below, and have their names here too.
pub use Rattle.sinks.specs.Appended
pub use Rattle.sinks.specs.Sinks
pub use Rattle.sinks.specs.Fuses
pub use Rattle.boards.specs.Plans
pub use Rattle.boards.specs.Text
pub use Rattle.boards.specs.Reference
pub mod MergedVerdicts
pub mod Headline
pub mod Interrupted
pub mod Pbn
pub mod Plain
pub mod Values
pub mod internal
