-- The kinds of line that are held to what was read so far (Kinds).
pub mod Kinds
