-- The laws of a line at a place (Lines), of runs of lines (Runs), of the line at a place byte by byte (Place); that no other answer fits (Once).
pub mod Lines
pub mod Runs
pub mod Place
pub mod Once
