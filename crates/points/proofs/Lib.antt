pub mod Calls
pub mod Loop
pub mod Judged
pub mod Meaning
pub mod Witness
