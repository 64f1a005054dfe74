pub mod Gives
pub mod Shown
pub mod Batches
pub mod Joining
pub mod Streams
