-- The lines of a type with its rows by their kind (TypeRows), that no other outcome and no other words fit (Once), and counted lines (Forms).
pub mod TypeRows
pub mod Once
pub mod Forms
