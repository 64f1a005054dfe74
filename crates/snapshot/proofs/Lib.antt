pub mod Finding
pub mod FirstHits
pub mod Pages
pub mod Joining
pub mod Jobs
pub mod Listed
