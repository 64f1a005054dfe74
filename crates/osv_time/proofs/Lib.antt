mod Places
pub mod Tenths
