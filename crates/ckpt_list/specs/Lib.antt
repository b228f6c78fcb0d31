pub mod Lists
pub mod Sound
pub mod Trims
pub mod Laws
pub mod Rehearsal
pub mod Windows
