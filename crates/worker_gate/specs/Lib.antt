pub mod Numbers
pub mod Plays
pub mod Rule
pub mod Seats
pub mod Views
