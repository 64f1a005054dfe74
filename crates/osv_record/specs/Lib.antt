pub mod Advisories
pub mod Reading
pub mod Imports
pub mod Faults
pub mod Parts
