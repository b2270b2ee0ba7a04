-- The course (Order), the answer (Timing), places within their texts (Places), the print (Printed), no other outcome (Once).
pub mod Order
pub mod Timing
pub mod Places
pub mod Printed
pub mod Once
