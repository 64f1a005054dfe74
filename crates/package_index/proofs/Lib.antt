pub mod Numbering
pub mod Noting
pub mod Matching
pub mod Rising
pub mod Grouping
pub mod Kept
pub mod Renewing
