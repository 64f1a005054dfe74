pub mod Works
pub mod Pieces
pub mod Sets
