-- What bodies and lemmas use. Public clauses name of it only `subject_of`.
pub mod Kept
pub mod Codes
pub mod Counters
pub mod Texts
pub mod PageLines
pub mod Lines
pub mod Items
pub mod Parts
