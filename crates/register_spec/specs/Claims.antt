-- What is claimed of the register's rows. Proved in proofs/.
use Rattle.std.specs.Prelude.{ℕ, false, List, [], ◌∷◌, ◌≡◌}
use Rattle.sitting_shown.specs.Shown.{formula, cell}
use Rattle.sitting_shown.specs.Readable.{First}
use Rattle.register_spec.specs.declared.Row.{Row}
use Rattle.register_spec.specs.Text.{cells_after, row_text, unreadable_cells, unreadable_text, split}

-- whatever the name's bytes are, a row splits into its nine cells
unfoldable pub RowsReadBack : Type 0
RowsReadBack = (name : List ℕ) (r : Row) → split (row_text name r) ≡ cell name ∷ cells_after r

unfoldable pub UnreadableReadsBack : Type 0
UnreadableReadsBack = (name : List ℕ) → split (unreadable_text name) ≡ cell name ∷ unreadable_cells

-- each of some cells
abbrev pub EachCell : (List ℕ → Type 0) → List (List ℕ) → Type 0
EachCell P [] = Unit
EachCell P (c ∷ cs) = P c × EachCell P cs

-- no cell begins as one that a spreadsheet works out
unfoldable pub NoCellIsWorkedOut : Type 0
NoCellIsWorkedOut = (name : List ℕ) (r : Row) → EachCell (First (λ b. formula b ≡ false)) (cell name ∷ cells_after r)
