pub mod Histories
pub mod Images
pub mod Keys
pub mod Lasts
pub mod Levels
pub mod Limits
pub mod Statuses
