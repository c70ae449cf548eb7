pub mod Chains
pub mod Memories
pub mod Validity
