pub mod Offending
pub mod Starting
