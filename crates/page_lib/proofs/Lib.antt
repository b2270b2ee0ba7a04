-- Pieces written one after the other (Pieces), and a line by its first bytes (FirstBytes).
pub mod Pieces
pub mod FirstBytes
