-- The names kept in place (Quiet), what foretelling promises, and that no other outcome fits (Foresees).
pub mod Quiet
pub mod Foresees
