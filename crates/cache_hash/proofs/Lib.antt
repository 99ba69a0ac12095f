mod Ended
mod Finding
mod FirstNode
mod Found
mod Fronted
mod Keyed
mod Making
mod Progress
mod Told
mod Turning
mod Updating
mod Walking
pub mod KeySums
pub mod LaterPlaces
pub mod Prelude
pub mod Room
pub mod UpdateSums
pub mod FewKeys
