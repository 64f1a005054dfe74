pub mod Importing
pub mod Joining
pub mod Querying
pub mod Showing
pub mod Streams
