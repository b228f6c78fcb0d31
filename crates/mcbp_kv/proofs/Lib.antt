pub mod Answers
pub mod Asked
pub mod Chosen
pub mod Commands
pub mod Required
pub mod Extras
pub mod Shapes
pub mod Parts
