use Prim.Native.Nat.{ℕ, ◌≤◌}
use mathlib.Core.List.{List, [], ◌∷◌}
use mathlib.Core.Path.{◌≡◌}
use native.Mathlib.Omega.{arith}
use lib.ListN.{length, drop}
use Rattle.item_spec.specs.Read.{key}
use Rattle.read_items.specs.Reads.{Reads}
use Rattle.read_items.specs.Says.{due_says}
use Rattle.std.specs.Option.{unwrap_or}
use Rattle.std.specs.declared.option.Option.{Option}
use Rattle.std.specs.declared.option.Option.TheVariants.{Some, None}
use Rattle.form_cells.specs.Cells.{unmarked}
use Rattle.form_cells.proofs.Laws.{marked, not-marked}
use Rattle.form_cells.proofs.past_mark.Goals as goal

-- the mark is passed where it stands, by what was read of it
passed : (s : List ℕ) (r : Option ℕ) → Reads s (due_says r) (key (239 ∷ 187 ∷ 191 ∷ []) s) → (unwrap_or r 0 ≤ length s) × (drop (unwrap_or r 0) s ≡ unmarked s)
passed s (Some i) h = (h.within, marked s h.same)
passed s None h = (omega arith, not-marked s h.same)

pub returns-clause-within : goal.returns-clause-within
returns-clause-within c = rw c.unwrap_or.ensures (passed _ _ c.past_key.ensures).0

pub returns-clause-rest : goal.returns-clause-rest
returns-clause-rest c = rw c.unwrap_or.ensures (passed _ _ c.past_key.ensures).1
