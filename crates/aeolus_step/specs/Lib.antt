-- Rows of bindings counted (Rows) and freed (Freed) one by one; no other outcome (Once).
pub mod Rows
pub mod Freed
pub mod Once
