pub mod Outputs
pub mod Line
pub mod Parts
pub mod Commits
pub mod Asked
pub mod Checked
pub mod Stops
