pub mod CodeSums
pub mod Position
pub mod Capped
pub mod Answers
