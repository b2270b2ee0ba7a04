use Prim.Native.Nat.{ℕ}
use mathlib.Core.List.{List}
use mathlib.Core.Path.{ap, ◌∙◌}
use Rattle.form_cells.specs.Cells.{looked_at}
use Rattle.form_spec.specs.Said.{lines_said}
use Rattle.form_lib.proofs.Laws.{lines_are}
use borrow.Author.Rules.{rules}
use Rattle.form_lib.proofs.read_rows.Statement.{statement}
use Rattle.form_lib.proofs.read_rows.Tie as tie

returns : tie.Need-returns
returns c =
    let w = c.write_lines-used.ensures.0 in
    c.read_lines.ensures
    ∙ ap (λ (l : List ℕ). lines_said (looked_at l)) (lines_are _ _ _ _ w c.requires)

pub read_rows_spec : {M : Type 1} → statement M
read_rows_spec =
    tie.close
    (tie.spec
    (λ c κs. search rules) (λ c. search rules) (λ c. search rules) (λ c κs. search rules) (λ c. search rules) returns)
