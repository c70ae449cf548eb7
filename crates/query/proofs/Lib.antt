pub mod Tabulating
pub mod Meetings
pub mod Placing
pub mod Telling
pub mod Asking
