-- What the readers promise: the one form of a promise (Reads), what each case of an enum says (Says), a line and its key (Keyed),
-- a line of numbers within their limits (Within), and, for the readers' own use, what one byte does (Turn).
pub mod Reads
pub mod Says
pub mod Keyed
pub mod Within
pub mod Turn
