pub mod Faults
pub mod Graph
pub mod Links
pub mod Rounds
pub mod Registers
pub mod Rulings
pub mod Sizes
pub mod Walks
