-- The definition's course for each case of the code's outcome (Came), a paper alone (Alone), a line as a part of its text (Part), what is printed after a verdict (Shown), whether a report has room (Room), a count of bytes (Counts), no other outcome (Once), where an answer ends as a start (Next).
pub mod Came
pub mod Alone
pub mod Part
pub mod Shown
pub mod Room
pub mod Counts
pub mod Once
pub mod Next
