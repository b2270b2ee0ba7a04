-- What reading a whole text answers (Whole), lines of one number, short texts (Chain), and lines after what was read so far (After).
pub mod Whole
pub mod Chain
pub mod After
