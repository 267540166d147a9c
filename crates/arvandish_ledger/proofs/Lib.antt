pub mod Promise
pub mod Numbers
