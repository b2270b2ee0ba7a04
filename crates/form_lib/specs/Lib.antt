-- What writing a draft promises, and that no other outcome fits.
pub mod Drafts
