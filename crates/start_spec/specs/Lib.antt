-- "Papers that start from a running system" (02, C-20): the lines of a start (Row), its text (Text), number 50 (Served), and what a start that
-- is read keeps to (Permitted).
pub mod Paper
pub mod Row
pub mod Text
pub mod Served
pub mod Permitted
pub mod Round
