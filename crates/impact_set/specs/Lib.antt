pub mod Bits
pub mod Digests
pub mod Standing
pub mod Passing
