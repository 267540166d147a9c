pub mod Numbered
pub mod Counted
