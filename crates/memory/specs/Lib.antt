pub mod Path
pub mod Layout
pub mod Views
pub mod Reach
pub mod Tidy
