-- The fault of each text of a paper (Faults), and what is claimed of it (Claims).
pub mod Faults
pub mod Claims
