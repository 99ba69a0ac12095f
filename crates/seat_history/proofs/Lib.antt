pub mod Blank
pub mod Changed
pub mod FirstPairs
pub mod Histories
pub mod Numbered
pub mod Replies
pub mod SamePairs
pub mod SetPairs
