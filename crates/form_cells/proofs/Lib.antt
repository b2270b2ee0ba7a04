-- The laws of rows and cells, and of the lines that are looked at.
pub mod Laws
pub mod Looked
