pub mod Numbers
pub mod Places
pub mod Ready
pub mod Carried
pub mod Formed
pub mod Own
pub mod Whole
pub mod Witness
