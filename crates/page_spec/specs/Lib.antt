-- A text's line by its first bytes (Line), what became of an answer in words (Words), the pieces of a page (Piece), how it looks (Style), the page (Page), and what
-- is claimed of it (Claims, Ascii, Room).
pub mod Line
pub mod Words
pub mod Piece
pub mod Style
pub mod Page
pub mod Claims
pub mod Ascii
pub mod Room
