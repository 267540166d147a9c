pub mod Tables
pub mod Promise
