pub mod Courses
pub mod Scripts
pub mod Writes
pub mod Texts
pub mod Laws
pub mod Rows
