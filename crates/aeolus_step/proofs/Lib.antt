-- Rows of bindings counted and freed one by one (Rows), an action as a check and then a change (Acts), a run that has come to a step (Ahead),
-- no other outcome (Once).
pub mod Rows
pub mod Acts
pub mod Ahead
pub mod Once
