-- What an answer and a buffer are of a judgement (Comes); no other outcome (Once).
pub mod Comes
pub mod Once
