mod Fills
mod PutBack
pub mod Taken
