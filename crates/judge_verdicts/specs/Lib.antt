-- The place after a walk, where it is known whether the report fits.
pub mod Fits
