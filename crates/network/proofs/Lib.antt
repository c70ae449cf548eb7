pub mod Alterations
pub mod Closing
pub mod Cursors
pub mod Faultless
pub mod Granting
pub mod Orders
pub mod Overwritten
pub mod Sound
