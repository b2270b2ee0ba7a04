-- The laws that the readers' proofs cite: bytes, digits and members of a text (Laws), the shapes of lines (Shapes), a form and its limits
-- (Limits), a line of numbers (Within); that no other answer fits (Once).
pub mod Laws
pub mod Shapes
pub mod Limits
pub mod Within
pub mod Once
