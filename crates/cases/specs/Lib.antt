pub mod Trie
pub mod Cases
