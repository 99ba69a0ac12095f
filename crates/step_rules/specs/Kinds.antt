pub mod Backup
pub mod Claiming
pub mod Exchange
pub mod Node
pub mod Standing
pub mod Versions
pub mod Walking
