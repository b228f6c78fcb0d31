pub mod Laws
pub mod Saves
pub mod Turns
