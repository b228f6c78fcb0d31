pub mod GivingUp
pub mod TakingOver
pub mod Laws
