-- What the readers of runs of lines promise (Runs), and what a count line answers (Counts).
pub mod Counts
pub mod Runs
