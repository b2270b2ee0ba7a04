pub mod Parts
pub mod Bounds
pub mod Queue
