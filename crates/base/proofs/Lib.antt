pub mod Bools
pub mod Lists
pub mod Numbers
pub mod Outcomes
pub mod Refusing
pub mod Stands
pub mod Stores
