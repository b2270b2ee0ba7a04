-- What a step and a walk have come to (Reached), of which programs (Fits), and of all of them (Held).
pub mod Reached
pub mod Fits
pub mod Held
