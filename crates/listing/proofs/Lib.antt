pub mod Digits
pub mod Runs
pub mod Lines
pub mod Table
pub mod Functions
