-- A line put into what was read so far (Laws), as it was placed (Placed); a line of one number, what a whole text comes to (Chain); no other answer (Once,
-- After).
pub mod Laws
pub mod Placed
pub mod Chain
pub mod Once
pub mod After
