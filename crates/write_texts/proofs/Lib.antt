pub mod Loops
pub mod Whole
