-- How far a step can take the clock (Paced), how far an answer can (Bounded), no other outcome (Once).
pub mod Paced
pub mod Bounded
pub mod Once
