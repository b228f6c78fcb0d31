pub mod Chains
pub mod Outstanding
pub mod Pending
pub mod Laws
