-- What is claimed (Claims), and the cases, computed from texts: of answers (Answers), of plans (Plans).
pub mod Claims
pub mod Answers
pub mod Plans
