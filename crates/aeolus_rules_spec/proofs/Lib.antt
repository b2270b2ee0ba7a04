-- Lists of distinct numbers (Sizes), the test is Definition 3 (Exactly), rows of checks taken apart (Allowed), runs (Runs), rows of bindings
-- (Bindings), Definition 2 kept (Kept).
pub mod Sizes
pub mod Exactly
pub mod Allowed
pub mod Runs
pub mod Bindings
pub mod Kept
pub mod Effects
pub mod Counted
