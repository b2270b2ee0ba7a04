-- The laws of rows of words (Rows), what a change of words changes in what they say (InTexts, InTables, InState), and that this is every word (Whole).
pub mod Rows
pub mod InTexts
pub mod InTables
pub mod InState
pub mod Whole
pub mod Served
