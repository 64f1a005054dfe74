pub mod Extended
pub mod Faulty
pub mod Growth
pub mod Numbers
pub mod Parts
pub mod Rows
