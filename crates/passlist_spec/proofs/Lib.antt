-- Marks of at most 1,000 (Few), a row that the register wrote, read again (Read), who is on the list (Exactly), the list of a whole register (Whole), and of one
-- that was written of answers (Register).
pub mod Few
pub mod Read
pub mod Exactly
pub mod Whole
pub mod Register
