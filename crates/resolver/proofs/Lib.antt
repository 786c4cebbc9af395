-- The laws of the resolver.
pub mod ByPlaces
pub mod Rows
pub mod Gathering
pub mod Matching
pub mod Parts
pub mod Scattering
