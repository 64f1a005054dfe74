pub mod Placing
pub mod Hitting
