-- The Aeolus paper as one function (Report, Course, Judged), its marked cases (Cases), and what the board asks of it (Room, Shams, Once).
pub mod Report
pub mod Course
pub mod Judged
pub mod Cases
pub mod Room
pub mod OnTexts
pub mod Shams
pub mod Once
