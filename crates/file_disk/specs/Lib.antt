pub mod Files
pub mod Noting
