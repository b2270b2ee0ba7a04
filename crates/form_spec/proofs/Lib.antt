-- Rows of cells and how they are counted (Rows), each kind of line as a row (EachKind), a type of a form (TypeForm), the whole form (WholeForm),
-- that it is shorter than its sheet (Shorter), that it gives its sheet (Trip); a row's number (RowNumbers), and what says
-- nothing or the same (Alike).
pub mod Rows
pub mod EachKind
pub mod TypeForm
pub mod WholeForm
pub mod Shorter
pub mod LawfulForm
pub mod Trip
pub mod RowNumbers
pub mod Alike
