pub mod Keeps
pub mod Numbers
pub mod Shares
pub mod Totals
