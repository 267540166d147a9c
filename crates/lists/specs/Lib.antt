pub mod Promise
pub mod Best
