-- The order of the two texts' faults (Order), what the course says of the judgement (Judgement), the place within its text (Places), the print
-- (Printed), no other outcome (Once).
pub mod Order
pub mod Judgement
pub mod Places
pub mod Printed
pub mod Once
