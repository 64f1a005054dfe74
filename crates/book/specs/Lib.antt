pub mod Entries
pub mod Repos
pub mod Pieces
pub mod Builds
pub mod Books
pub mod Handing
