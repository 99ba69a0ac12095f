pub mod Carrying
pub mod Coming
pub mod Ends
