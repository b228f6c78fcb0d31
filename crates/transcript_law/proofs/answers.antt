-- what clients are answered
pub mod Fits
pub mod Messages
pub mod Statuses
pub mod Awaited
pub mod Explained
pub mod Committed
pub mod Posted
pub mod Claims
pub mod Rests
pub mod Calm
pub mod Ended
