pub mod Reorder
pub mod AnyOrder
pub mod Cases
