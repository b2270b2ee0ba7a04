-- A program gone through on names alone (Names), what that foretells of every walk (Foretold), where an instruction stands in its sheet (Lines), what is foretold of every judged answer (OnTexts), some cases (Cases).
pub mod Names
pub mod Foretold
pub mod Lines
pub mod OnTexts
pub mod Cases
