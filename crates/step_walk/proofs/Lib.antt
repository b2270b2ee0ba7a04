-- What words hold (Held), a step by its verb (Steps), what is left of a walk (Ahead), and that lawful programs name ports that fit (Fits).
pub mod Held
pub mod Steps
pub mod Ahead
pub mod Fits
