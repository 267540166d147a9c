pub mod Vectors
pub mod Trie
pub mod Updates
pub mod Cases
pub mod Tempting
