-- Rows of cells, as a spreadsheet saves them, and the lines that they stand for.
pub mod Cells
