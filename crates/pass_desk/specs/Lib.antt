pub mod Turns
pub mod Lasting
pub mod Passes
