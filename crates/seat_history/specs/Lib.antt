pub mod Change
pub mod Contents
pub mod History
pub mod Key
pub mod Object
pub mod Pairs
pub mod Plain
pub mod Step
