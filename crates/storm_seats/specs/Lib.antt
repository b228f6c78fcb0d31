pub mod Views
pub mod Gathering
pub mod Draining
pub mod Laws
