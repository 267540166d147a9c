pub mod Held
pub mod Spare
pub mod Edits
pub mod Routes
