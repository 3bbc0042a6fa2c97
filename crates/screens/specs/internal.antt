-- What only bodies and lemmas use: no public clause names any of it.
pub mod Shares
pub mod Estimates
pub mod Gaps
pub mod Exclusions
pub mod ScreenCode
pub mod ScreenTests
