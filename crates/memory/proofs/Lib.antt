pub mod Find
pub mod Reach
pub mod Ledger
pub mod Bare
pub mod Chain
pub mod Room
pub mod Tidy
pub mod Zeros
