-- What holds of all that is shown (Readable), a byte more (Pieces), and the length of a place's line (Places).
pub mod Readable
pub mod Pieces
pub mod Places
