pub mod Fresh
pub mod Calls
pub mod AtPorts
pub mod Wiring
pub mod Whole
pub mod Slotting
