pub mod Runs
pub mod Owned
pub mod Apart
pub mod Counting
pub mod Sessions
