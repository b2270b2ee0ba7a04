-- The names kept in place (Kept), one instruction more (Onward), a paper read and what is printed of it (Papers), no other outcome (Once).
pub mod Kept
pub mod Onward
pub mod Papers
pub mod Once
