pub mod Found
pub mod Groups
pub mod Lines
pub mod Made
pub mod Marks
