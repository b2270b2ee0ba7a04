-- The report's parts.
pub mod Lines
