-- Two tests of a line that may be absent (Tests), names that have no line (Names), a line for each member of a set (Members).
pub mod Tests
pub mod Names
pub mod Members
