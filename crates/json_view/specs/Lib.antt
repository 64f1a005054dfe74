pub mod Json
pub mod Trees
pub mod Views
