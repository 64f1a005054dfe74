pub mod Snapshots
pub mod Pages
pub mod Ranges
pub mod Subjects
pub mod Walks
pub mod Jobs
