pub mod Affecting
pub mod Descending
pub mod Ids
pub mod Marking
pub mod Naming
pub mod Newest
pub mod Parents
pub mod Searching
