pub mod Paths
pub mod Applying
pub mod Batch
pub mod Promise
pub mod History
pub mod Wrong
