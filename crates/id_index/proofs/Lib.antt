pub mod Digits
pub mod Heads
pub mod Finding
pub mod Firsts
pub mod There
