-- A line read at a part of the text and put into what was read so far.
-- Assumes nothing.
use Prim.Native.Nat.{ℕ, ◌+◌, min}
use mathlib.Core.List.{List}
use mathlib.Core.Path.{◌≡◌}
use lib.ListN.{length, drop}
use Rattle.item_spec.specs.Reader.{Reader}
use Rattle.read_items.specs.Reads.{past, fault, Reads}
use Rattle.read_spec.specs.Lines.{Run, run_on, hand_on, line}
use Rattle.read_lines.specs.Runs.{onto, fault_at, RunsTo}
use Rattle.read_lines.proofs.Lines.{part, line-there}
use Rattle.read_lines.proofs.Runs.{line_refused, line-read, run-refused, run-seen}

-- one line m, read at the part from `at` on, and its value put
module _ {A B : Type 0} (m : Reader A) (put : A → B) (s : List ℕ) (start at : ℕ) (e : at ≡ min start (length s)) where
  abbrev pub putting : Run B
  putting = run_on (line m (drop start s)) (λ x. hand_on (put x))

  pub put-line : {x : A} {used : ℕ} → Reads (part s at) (past x used) (m (part s at)) → RunsTo s (onto (put x) (at + used)) putting
  put-line o = run-seen put (line-read m s start (line-there m s start at e o))

  pub put_refused : {k : ℕ} → Reads (part s at) (fault k) (m (part s at)) → RunsTo s (fault_at k at) putting
  put_refused o = run-refused _ _ (line_refused m s start e (line-there m s start at e o))
