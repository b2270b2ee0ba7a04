-- The rows of a type by their kind (Rows), and the numbers of a line (Numbers).
pub mod Rows
pub mod Numbers
