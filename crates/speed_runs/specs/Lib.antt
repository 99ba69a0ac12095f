pub mod Carrying
pub mod Runs
pub mod Streams
