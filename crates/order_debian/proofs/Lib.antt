pub mod Dashes
pub mod Weighing
