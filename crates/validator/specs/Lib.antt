pub mod Judge
pub mod Accepts
pub mod Sizes
pub mod Tests
