-- A form and the limits that it is held to, and a line by its verb (Limits); that no other answer fits (Once).
pub mod Limits
pub mod Once
