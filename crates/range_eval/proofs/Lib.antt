pub mod Chains
pub mod Flag
pub mod Limits
pub mod Orders
pub mod Sorts
pub mod Stands
pub mod Turns
