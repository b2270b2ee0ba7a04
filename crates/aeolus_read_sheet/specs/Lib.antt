-- That no other outcome fits (Once).
pub mod Once
