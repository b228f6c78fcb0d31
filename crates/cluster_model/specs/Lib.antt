pub mod Clusters
pub mod Spans
pub mod Rehearsal
