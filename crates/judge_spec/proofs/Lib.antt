-- The marked cases (Cases), the same reports from a table and from a list (Listed), room for every report (Room), the four shams caught (Shams), no other outcome (Once), where an answer ends as a start (Next), a paper alone (Alone).
pub mod Cases
pub mod Read
pub mod Plain
pub mod Room
pub mod Shams
pub mod Once
pub mod Listed
pub mod StartCases
pub mod Next
pub mod Alone
