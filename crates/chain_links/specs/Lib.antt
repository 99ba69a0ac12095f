pub mod Copying
pub mod Following
pub mod Parts
pub mod Walking
