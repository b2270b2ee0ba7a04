-- How a row of the register is read (Row), where it stands (Standing), the list of a whole register (Listed), what is claimed of that (Whole), and of a register
-- that was written of answers (Claims).
pub mod Row
pub mod Standing
pub mod Listed
pub mod Whole
pub mod Claims
