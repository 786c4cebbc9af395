pub mod Live
pub mod Place
pub mod OneValue
pub mod Balance
pub mod Arrays
pub mod Record
pub mod Cases
