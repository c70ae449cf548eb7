pub mod Answering
pub mod Crossing
pub mod Distances
pub mod Lesser
pub mod Nearer
pub mod Stretch
pub mod Unique
