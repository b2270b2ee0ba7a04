-- The step of the screen in the hall (Screen), what it says of what readers give and walks reach (Agree), each clause of number 7 by itself
-- (Clauses), what stands in each slot afterwards (Slots), all that on lent words (Words), and that no other outcome fits (Once).
pub mod Screen
pub mod Agree
pub mod Clauses
pub mod Slots
pub mod Words
pub mod Once
