pub mod Disks
pub mod Lasts
pub mod Views
pub mod Backfilling
