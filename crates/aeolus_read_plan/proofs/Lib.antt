-- What follows each verb (Steps), and that no other answer fits the promises (Once).
pub mod Steps
pub mod Once
