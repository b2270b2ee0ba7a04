-- The marked cases (Cases), how long a report is (Bound), room for every report (Room), the four shams told from the judge (Shams), no other
-- outcome (Once).
pub mod Cases
pub mod Bound
pub mod Room
pub mod OnTexts
pub mod Shams
pub mod Once
