pub mod Slots
pub mod Below
pub mod Forming
pub mod Entering
pub mod Walking
