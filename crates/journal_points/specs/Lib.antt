pub mod Laws
pub mod Limits
pub mod Points
pub mod Rows
pub mod Sides
