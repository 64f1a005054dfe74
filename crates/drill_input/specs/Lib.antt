pub mod Draws
pub mod Commits
pub mod Advisories
pub mod Questions
