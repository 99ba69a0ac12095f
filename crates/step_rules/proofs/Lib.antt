pub mod Keeps
pub mod Line
pub mod Numbers
pub mod Order
pub mod Rely
pub mod Ties
pub mod World
