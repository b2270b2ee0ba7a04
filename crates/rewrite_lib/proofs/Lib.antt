-- The reader's answer as the definition's course (Came), the bytes that are written (Bytes), no other outcome (Once).
pub mod Came
pub mod Bytes
pub mod Once
