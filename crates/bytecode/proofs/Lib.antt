pub mod Memory
pub mod Sequential
pub mod Back
pub mod Decoded
pub mod Readable
pub mod Origins
pub mod Length
pub mod Unwritten
