mod Asked
mod Bytes
pub mod Courses
mod Hexed
pub mod Lines
pub mod Numbers
pub mod Places
mod Rows
mod Said
pub mod Spelled
