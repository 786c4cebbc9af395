pub mod Answers
pub mod Measures
pub mod Compiling
pub mod Judging
pub mod Numbers
