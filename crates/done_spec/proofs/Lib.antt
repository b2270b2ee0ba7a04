-- The test in other words (Done).
pub mod Done
