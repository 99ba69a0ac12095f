pub mod Adding
pub mod Attempts
pub mod Calls
pub mod Drawing
pub mod Draws
pub mod Driving
pub mod Tallying
pub mod Workers
