pub mod Loading
pub mod Rechecking
