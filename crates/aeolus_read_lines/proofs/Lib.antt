-- A line by its key and its numbers (Keys).
pub mod Keys
