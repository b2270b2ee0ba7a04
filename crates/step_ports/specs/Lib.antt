-- The port check port by port (Turns), and the provide ports in use row by row (InUse).
pub mod Turns
pub mod InUse
