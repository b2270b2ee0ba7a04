-- What a row says (Rows), and its bytes one after the other (Cells).
pub mod Rows
pub mod Cells
