pub mod Added
pub mod AllHits
pub mod Keeping
pub mod Listing
pub mod Noting
pub mod Picked
pub mod Placing
pub mod Zipped
