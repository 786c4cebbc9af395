pub mod Sizes
pub mod Units
pub mod Static
pub mod Emit
pub mod Locating
pub mod Whole
