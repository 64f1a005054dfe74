pub mod Alone
pub mod Events
pub mod Growing
pub mod Pulling
pub mod Weights
pub mod Pieces
pub mod Stages
pub mod Publishing
