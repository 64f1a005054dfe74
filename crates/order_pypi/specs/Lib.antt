pub mod Grammar
pub mod Key
pub mod Laws
pub mod Reading
pub mod Slices
pub mod Spelling
