pub mod Run
pub mod Origin
pub mod Ranges
pub mod Version
pub mod Code
pub mod Sequential
pub mod WellFormed
pub mod Answers
