-- The laws of areas and rows (Areas), and that they tell their words (Told).
pub mod Areas
pub mod Told
