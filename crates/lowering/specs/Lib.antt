pub mod Compile
pub mod Naming
pub mod Answers
pub mod Demand3
pub mod Listing
pub mod Cases
