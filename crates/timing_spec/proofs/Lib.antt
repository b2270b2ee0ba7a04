-- The mark by its meaning (Nearest), what is computed of three texts (Cases), what is the judge's own (Same), the room (Room), no other outcome (Once).
pub mod Nearest
pub mod Cases
pub mod Same
pub mod Room
pub mod Once
