pub mod SomeAtom
pub mod Loose
pub mod HandBounds
pub mod Measured
pub mod ValueBounds
pub mod FewRows
