-- The forms that the lines of every text are made of, for reading (Read) and for writing (Write), and of promises that are equations (Once).
pub mod Refusal
pub mod Reader
pub mod Read
pub mod Items
pub mod Write
pub mod Once
