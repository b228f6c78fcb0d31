pub mod WireLogs
pub mod Words
mod Metadata
mod Read
mod DurableFaults
mod ConnectionFaults
pub mod DurableBytes
pub mod ConnectionBytes
pub mod MessageBytes
pub mod Opcodes
mod Puts
pub mod DcpBack
pub mod DcpOnce
pub mod DcpFaults
pub mod DcpLens
