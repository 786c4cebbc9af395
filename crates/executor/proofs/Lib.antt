pub mod Canonical
pub mod Stored
pub mod Arms
pub mod Loop
