-- Document 01 as one function (Course, Judged), its marked cases (Cases), what the board asks of it (Room, Shams, Once), and the
-- judge with the old list of connections (Listed); a paper alone (Alone), and as it is lent (Lent).
pub mod Course
pub mod Judged
pub mod Cases
pub mod Plain
pub mod Room
pub mod Shams
pub mod Once
pub mod Listed
pub mod StartCases
pub mod Next
pub mod Alone
pub mod Lent
