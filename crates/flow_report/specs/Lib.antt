pub mod EngineOrder
pub mod Ranges
pub mod ReadBack
pub mod Reading
pub mod Sums
pub mod Text
