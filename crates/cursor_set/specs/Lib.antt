pub mod Cursors
pub mod Laws
