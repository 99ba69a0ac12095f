pub mod Advance
pub mod Claimed
pub mod Flights
pub mod Moments
pub mod Owed
pub mod Readers
pub mod Seeing
pub mod Writers
