-- What rewriting a sheet promises, and that no other outcome fits.
pub mod Rewrites
