pub mod Finding
pub mod Order
pub mod Places
pub mod Progress
pub mod Queues
pub mod Searches
pub mod States
