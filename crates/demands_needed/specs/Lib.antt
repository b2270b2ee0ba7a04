-- Why each rule is needed for the board's demands: the rules with one notion changed, and texts on which a demand then fails.
pub mod Needed
