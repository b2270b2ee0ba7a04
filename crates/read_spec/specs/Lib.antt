-- Section 'The two texts' of 01: the limits (Limits), every kind of line (Kinds), runs of lines (Lines), the two texts (Texts),
-- the line at a place (Place), and what a text that was read keeps to (Lawful).
pub mod Limits
pub mod Lines
pub mod Kinds
pub mod Fill
pub mod Texts
pub mod Place
pub mod Lawful
pub mod Plain
