pub mod Exactly
pub mod Promised
pub mod Witness
pub mod Once
