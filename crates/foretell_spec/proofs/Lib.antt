-- What an instruction and a move make of the names (Names), what the names foretell (Foretold), where an instruction stands (Lines), what is foretold of the texts (OnTexts), some cases (Cases).
pub mod Names
pub mod Foretold
pub mod Lines
pub mod OnTexts
pub mod Cases
