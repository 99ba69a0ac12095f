pub mod Another
mod Copies
pub mod Doing
mod Finishing
mod Following
pub mod Passing
mod Putting
mod Seeking
mod Ways
