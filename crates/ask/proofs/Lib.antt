pub mod Reading
pub mod Dividing
pub mod Streaming
pub mod Answering
pub mod CheckedLines
