-- The report lies within its room (Room), that of a plan too (Plans).
pub mod Room
pub mod Plans
