pub mod Figures
pub mod Hubs
pub mod Lookup
pub mod Meeting
