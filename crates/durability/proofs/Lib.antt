pub mod Changes
pub mod Counts
pub mod Dues
pub mod Rising
