pub mod Answers
pub mod Serving
pub mod Heads
pub mod Conduct
pub mod Rows
pub mod Asking
pub mod Numbers
