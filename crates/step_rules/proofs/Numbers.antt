pub mod Bags
pub mod Places
pub mod Ranges
pub mod Sets
