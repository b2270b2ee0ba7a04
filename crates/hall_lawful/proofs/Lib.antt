-- Loops that look for a number that fails a test (Loops), and the head of the tables (Heads).
pub mod Loops
pub mod Heads
