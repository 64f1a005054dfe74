pub mod Ascending
pub mod Latest
pub mod ById
pub mod Commits
