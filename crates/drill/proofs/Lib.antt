pub mod Drawing
pub mod Joining
pub mod Quiet
pub mod Having
pub mod Playing
pub mod Counting
pub mod Dividing
