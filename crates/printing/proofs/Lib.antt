pub mod Patch
pub mod Paths
pub mod Digits
pub mod Setting
pub mod Bytes
pub mod Writing
