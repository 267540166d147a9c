pub mod Search
pub mod Writers
