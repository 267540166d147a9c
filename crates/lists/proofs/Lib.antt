pub mod Follow
pub mod Scan
pub mod Promise
