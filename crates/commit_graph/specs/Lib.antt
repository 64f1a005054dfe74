pub mod Extended
pub mod Faults
pub mod Linked
pub mod Segments
