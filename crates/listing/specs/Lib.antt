pub mod Lines
pub mod Appends
