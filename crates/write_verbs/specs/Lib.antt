-- The lines of verbs (Verbs).
pub mod Verbs
