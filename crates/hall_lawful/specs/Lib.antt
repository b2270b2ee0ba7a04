-- The parts of clauses of number 7 that a function says by itself (Parts).
pub mod Parts
