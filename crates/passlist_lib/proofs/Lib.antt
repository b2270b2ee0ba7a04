-- Cells of a row one after the other (Laws).
pub mod Laws
