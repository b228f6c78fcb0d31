pub mod SixTests
pub mod Stable
pub mod ReadBack
pub mod Respelled
pub mod Cases
pub mod Cuts
pub mod Cutting
pub mod Pieces
pub mod Faults
mod Parts
mod FrameBytes
pub mod Headers
