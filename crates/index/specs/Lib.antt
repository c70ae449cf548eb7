pub mod Faults
pub mod Hubs
pub mod Books
pub mod Keeping
pub mod Calls
pub mod Building
pub mod Asking
