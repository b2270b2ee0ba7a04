-- What each case of an answer says (Says), and the rows of a type by their kind (Rows).
pub mod Says
pub mod Rows
