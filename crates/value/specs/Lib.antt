pub mod Values
pub mod Steps
pub mod Results
pub mod Typed
