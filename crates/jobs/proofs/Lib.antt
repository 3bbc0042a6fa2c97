pub mod Statuses
pub mod FirstDue
pub mod Refusals
pub mod Asking
pub mod Joined
pub mod Titles
pub mod EachAsked
