pub mod Batches
pub mod Faults
pub mod Members
pub mod Queries
