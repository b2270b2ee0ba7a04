-- What the definition's course has of a walk (Came), the line at fault as a part of one of three texts (Part), no other outcome (Once).
pub mod Came
pub mod Part
pub mod Once
