-- The options by what they are about: each with its rule, and what it means if it is given.
pub mod Search
pub mod Look
pub mod Questions
pub mod Notices
pub mod Others
