pub mod Indices
pub mod Paths
pub mod Resolve
pub mod Walk
