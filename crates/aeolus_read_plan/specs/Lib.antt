-- What a step line's answer says (Says), and that no other outcome fits (Once).
pub mod Says
pub mod Once
