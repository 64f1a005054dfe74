pub mod Messages
pub mod OfLines
pub mod Stays
