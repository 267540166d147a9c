pub mod Masks
pub mod Prefix
pub mod Reading
pub mod Promise
pub mod Chunks
