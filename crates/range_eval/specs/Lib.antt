pub mod Compiled
pub mod Latest
