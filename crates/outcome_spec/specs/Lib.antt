-- What becomes of an answer on a paper (Outcome), the fault of a paper alone (Paper), what is claimed of them (Claims), cases (Cases).
pub mod Outcome
pub mod Paper
pub mod Claims
pub mod Cases
