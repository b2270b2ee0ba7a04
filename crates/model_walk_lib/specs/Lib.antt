-- The order by number (Turns), what a model walk promises, and that no other outcome fits (Models).
pub mod Turns
pub mod Models
