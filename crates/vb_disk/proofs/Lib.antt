pub mod Arms
pub mod Crashed
pub mod Kept
pub mod Moments
pub mod Readied
pub mod Rewritten
