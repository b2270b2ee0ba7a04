-- The checks that the moves share.
pub mod Rows
