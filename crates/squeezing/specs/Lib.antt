pub mod Slots
pub mod Below
pub mod Stored
pub mod Entries
pub mod Source
