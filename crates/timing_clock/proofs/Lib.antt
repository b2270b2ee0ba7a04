-- How far a step can take the clock (Pace), the clock of a walk that has come to a step (Beside), no other outcome (Once).
pub mod Pace
pub mod Beside
pub mod Once
