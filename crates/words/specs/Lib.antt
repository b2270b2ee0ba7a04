-- Tables, program, answer and configuration as words of lent arrays.
pub mod Rows
pub mod Words
pub mod Parts
