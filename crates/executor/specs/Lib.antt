pub mod Execution
pub mod Instructions
