pub mod Heads
pub mod Found
