-- The report has at most 8,192 bytes (Bound): sums (Sums) of what each number and list takes (Widths).
pub mod Sums
pub mod Widths
pub mod Lines
pub mod Bound
pub mod Plain
pub mod Listed
