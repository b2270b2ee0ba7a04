-- Section 'The two texts' of the Aeolus paper: the limits (Limits), every kind of line (Kinds), the two texts (Texts), what a text that was
-- read keeps to (Lawful), and the paper's cases of reading (Cases). Runs of lines, due lines and counts are those of crate reading.
pub mod Limits
pub mod Kinds
pub mod Texts
pub mod Lawful
pub mod Cases
