pub mod Faults
pub mod Records
pub mod Kinds
pub mod Lines
pub mod Running
