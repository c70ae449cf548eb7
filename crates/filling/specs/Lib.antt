pub mod Places
pub mod Standing
pub mod Rows
pub mod Balls
pub mod Tables
