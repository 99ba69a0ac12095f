pub mod Claiming
pub mod Scanning
