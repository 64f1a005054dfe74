pub mod Holding
pub mod Playing
pub mod Growing
pub mod Looking
pub mod Alike
