-- What the words say is what the texts come to (Outcomes).
pub mod Outcomes
