-- Two equal to one are equal (Once). The laws of the forms: one step of each reader (Laws), a mask's members (Bits), what was written is read (Round), what was read is what is written (Back).
pub mod Once
pub mod Tests
pub mod Laws
pub mod Bits
pub mod Round
pub mod Back
pub mod Items
