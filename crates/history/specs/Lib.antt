pub mod Runs
pub mod Theorem
pub mod Doors
