-- The laws of drafts, and that no other outcome fits.
pub mod Laws
pub mod Once
