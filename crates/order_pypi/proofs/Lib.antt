pub mod Fronts
pub mod Releases
pub mod SpelledBytes
pub mod SpelledReleases
pub mod SpelledWords
pub mod Spellings
pub mod Trimming
