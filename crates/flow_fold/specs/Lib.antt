pub mod Flows
pub mod Fold
pub mod Key
pub mod Merge
pub mod Moment
pub mod Pair
pub mod Words
