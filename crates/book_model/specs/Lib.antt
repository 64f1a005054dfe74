pub mod State
pub mod Jobs
pub mod Steps
pub mod Conditions
pub mod Sound
pub mod Desk
