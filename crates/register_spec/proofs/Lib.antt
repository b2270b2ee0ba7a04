-- Rows that are split again (Split), and the cells' first bytes (Cells).
pub mod Cells
pub mod Split
