pub mod Ids
pub mod Picking
pub mod Pushing
pub mod Drawing
