-- What is claimed of outcomes (Claims), a paper that is not at fault (Good), and the table of cases (Cases).
pub mod Claims
pub mod Good
pub mod Cases
