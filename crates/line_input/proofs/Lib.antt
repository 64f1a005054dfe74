pub mod Cut
pub mod Behind
pub mod Held
pub mod Standing
pub mod Searching
pub mod Filling
