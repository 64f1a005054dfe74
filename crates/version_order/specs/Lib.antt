pub mod Bounds
pub mod Laws
pub mod Orders
pub mod Versions
