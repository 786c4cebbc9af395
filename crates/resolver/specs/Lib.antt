pub mod Slots
pub mod Groups
