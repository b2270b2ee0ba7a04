-- The rows of a type by their kind, and the texts in the parts that are written one after the other (Parts); the same as a form (Form); both by their layout (Layouts).
pub mod Parts
pub mod Form
pub mod Layouts
