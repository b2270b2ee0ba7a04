-- A row's bytes in the order in which they are written.
-- Assumes nothing.
use Prim.Native.Nat.{ℕ}
use mathlib.Core.List.{List, ◌++◌, append_assoc}
use mathlib.Core.Path.{◌≡◌, subst}
use Rattle.std.specs.Bool.{then_some}
use Rattle.item_spec.specs.Reader.{bytes}
use Rattle.item_spec.specs.Write.{number_text}
use Rattle.sitting_shown.specs.Shown.{cell}
use Rattle.outcome_spec.specs.Outcome.{outcome_text}
use Rattle.register_spec.specs.declared.Row.{Row}
use Rattle.register_spec.specs.Text.{port_cell, pointed, walked, number_cell, further_cells, row_text}
use Rattle.write_items.specs.Written.{Written}

-- eleven pieces, each after the ones before it
in_order : (a b c d e f g h i j k : List ℕ) → a ++ b ++ c ++ d ++ e ++ f ++ g ++ h ++ i ++ j ++ k ≡ a ++ (b ++ (c ++ (d ++ (e ++ (f ++ (g ++ (h ++ (i ++ (j ++ k)))))))))
in_order a b c d e f g h i j k = simp append_assoc

-- as they are written
abbrev pieces : List ℕ → Row → List ℕ
pieces name r =
    cell name ++ bytes "," ++ outcome_text r.outcome ++ (bytes "," ++ number_text r.number) ++ (bytes "," ++ port_cell r.port)
    ++ (bytes "," ++ number_cell (then_some (pointed r.outcome) r.line)) ++ (bytes "," ++ number_cell (then_some (walked r.outcome) r.accepted))
    ++ (bytes "," ++ number_cell (then_some (walked r.outcome) r.next)) ++ (bytes "," ++ number_text r.program) ++ (bytes "," ++ number_cell r.mark) ++ bytes "\n"

row-bytes : (name : List ℕ) (r : Row) → pieces name r ≡ row_text name r
unfolding row_text further_cells
row-bytes name r = in_order (cell name) (bytes ",") (outcome_text r.outcome) (bytes "," ++ number_text r.number) (bytes "," ++ port_cell r.port)
    (bytes "," ++ number_cell (then_some (pointed r.outcome) r.line)) (bytes "," ++ number_cell (then_some (walked r.outcome) r.accepted))
    (bytes "," ++ number_cell (then_some (walked r.outcome) r.next)) (bytes "," ++ number_text r.program) (bytes "," ++ number_cell r.mark) (bytes "\n")

pub row_written : (name : List ℕ) (r : Row) {old new : List ℕ} {at to : ℕ} → Written old (pieces name r) new at to → Written old (row_text name r) new at to
row_written name r {old} {new} {at} {to} h = subst (λ (l : List ℕ). Written old l new at to) (row-bytes name r) h
