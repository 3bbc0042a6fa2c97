pub mod Asked
pub mod Excerpt
pub mod Expected
pub mod Explanation
pub mod Note
pub mod internal
