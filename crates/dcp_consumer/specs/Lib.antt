pub mod PassiveStreams
pub mod Receiving
pub mod Dialing
pub mod Machine
pub mod Conduct
pub mod Counting
pub mod Noops
pub mod States
