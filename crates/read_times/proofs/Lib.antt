-- The laws that the reader of a text of times cites (Laws), and that no other answer fits its promise (Once).
pub mod Laws
pub mod Once
