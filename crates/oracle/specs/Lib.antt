pub mod Laws
pub mod Radius
pub mod Rule
