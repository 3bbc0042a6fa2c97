pub mod ColumnLemmas
pub mod TwoColumns
pub mod LineLemmas
pub mod Pairs
pub mod GameLemmas
pub mod Solving
pub mod LayoutLemmas
pub mod TitleLemmas
