-- Every kind of line keeps to its limits (Kept); a type while it is read leaves the others alone (Away); what a text that was read keeps to
-- (Lawful); the cases of reading (Cases).
pub mod Kept
pub mod Away
pub mod Lawful
pub mod Cases
