pub mod Kinds
pub mod Ports
