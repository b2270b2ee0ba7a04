-- A use port looked up by its server (Looks).
pub mod Looks
