-- The order by number (Ordered), a turn of it (Tried), turn after turn (Onward), the text of it (Texted), a paper read (Papers), no other outcome (Once).
pub mod Ordered
pub mod Tried
pub mod Onward
pub mod Texted
pub mod Papers
pub mod Once
