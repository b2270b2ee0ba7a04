-- Limits as they are tested (Limits); the number of a verb that no line of the sheet says (Foreign).
pub mod Limits
pub mod Foreign
