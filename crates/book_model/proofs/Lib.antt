pub mod Lasting
pub mod Owned
pub mod Sound
pub mod Growing
pub mod Own
pub mod Held
