pub mod Among
pub mod Holding
pub mod Parting
