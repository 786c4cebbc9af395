-- The laws of the order and of the paths by indices.
pub mod Range
pub mod Marks
pub mod Nodes
pub mod Scheduled
pub mod Closure
pub mod Reached
pub mod Edges
pub mod AnyOrder
pub mod Complete
pub mod Descent
pub mod LoopFree
