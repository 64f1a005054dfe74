pub mod Imported
pub mod Drilled
