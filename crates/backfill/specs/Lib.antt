pub mod Backfills
pub mod Laws
pub mod Rows
