pub mod Laws
pub mod Seqnos
pub mod Tables
