-- What a text that was read keeps to, and where one that was not is refused: of any reader (Rests), the shapes of lines (Shapes), the kinds of lines (Kept),
-- the arrays that lines fill (Slots), the two texts (Lawful).
pub mod Rests
pub mod Shapes
pub mod Kept
pub mod Slots
pub mod Lawful
pub mod Plain
