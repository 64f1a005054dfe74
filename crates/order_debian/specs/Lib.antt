pub mod Cuts
pub mod Key
pub mod Laws
pub mod Reading
pub mod Turns
