pub mod Lines
pub mod Decimals
pub mod Dots
pub mod Joined
pub mod Outcomes
pub mod Spelling
pub mod Shapes
pub mod Stops
pub mod Chains
pub mod Spelled
pub mod Joins
mod Signs
pub mod Steps
pub mod Nibbles
pub mod Sending
pub mod Readings
pub mod Words
pub mod KindWords
pub mod Fields
pub mod Tellings
pub mod Fitting
mod Wordings
pub mod Printed
mod Letters
pub mod Rows
pub mod LineParts
pub mod LineWords
pub mod Helds
pub mod Cuts
pub mod Endings
pub mod LineReads
pub mod Placed
pub mod Breaks
pub mod ReadLaws
pub mod ReadRows
