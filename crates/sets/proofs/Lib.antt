pub mod Words
pub mod Searches
pub mod Digits
pub mod Filling
pub mod Each
pub mod Members
