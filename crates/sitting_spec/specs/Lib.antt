-- The seven lines at a block's end (End), the block of an answer on a paper (Block), of a plan on the Aeolus paper (Plan), of a candidate (Candidate),
-- what is claimed of them (Claims), cases (Cases).
pub mod End
pub mod Block
pub mod Plan
pub mod Candidate
pub mod Claims
pub mod Cases
