-- The rows of a type by their kind (Rows), what reading a sheet answers (Sheet), and the same of a form (Form, Counted).
pub mod Rows
pub mod Sheet
pub mod Form
pub mod Counted
