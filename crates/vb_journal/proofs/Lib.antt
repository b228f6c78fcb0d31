pub mod Bearing
mod Coming
pub mod Fronts
pub mod Items
pub mod ItemsOnce
pub mod Lengths
mod Looking
pub mod Noting
mod Numbers
mod Opening
pub mod PartsBack
pub mod PartsOnce
pub mod PayloadBack
pub mod PayloadEnd
pub mod PayloadOnce
pub mod Putting
pub mod Readings
pub mod Sizes
pub mod Surviving
pub mod UnderArms
pub mod Words
pub mod Writable
