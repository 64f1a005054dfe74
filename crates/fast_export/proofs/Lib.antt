pub mod Cuts
pub mod Ends
pub mod Fed
pub mod Left
pub mod Positions
pub mod Resumes
pub mod Turns
