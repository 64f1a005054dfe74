pub mod WindowLemmas
pub mod Scanning
pub mod Looking
pub mod Texts
pub mod Openings
pub mod Lengths
pub mod Judging
mod Examples
pub mod Sized
pub mod LineEnds
pub mod Chunked
pub mod ChunkMoves
pub mod Settling
pub mod One
pub mod Wholes
pub mod Replies
pub mod ReadsBack
