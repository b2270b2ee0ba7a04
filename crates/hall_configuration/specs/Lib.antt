-- The clauses of number 7 on a configuration (Lawful), and the part of them that a function says by itself (Parts).
pub mod Lawful
pub mod Parts
