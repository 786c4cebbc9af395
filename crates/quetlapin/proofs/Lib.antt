pub mod Choosing
pub mod Compiling
pub mod Evaluating
pub mod Telling
pub mod Proposing
