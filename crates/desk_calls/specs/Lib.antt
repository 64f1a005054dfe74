pub mod Alone
pub mod Calls
pub mod Growing
pub mod Publishing
