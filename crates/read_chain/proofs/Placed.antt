-- A line that `line_at` placed, put into what was read so far; a run of which no value is looked at, before the value that is handed on; and a whole
-- text's value, which is cleared beside a refusal.
-- Assumes nothing.
use Prim.Native.Nat.{ℕ, ◌+◌, min}
use mathlib.Core.List.{List}
use mathlib.Core.Path.{◌≡◌, refl, sym, ap}
use mathlib.Core.Bool.{true, false}
use lib.ListN.{length}
use Rattle.item_spec.specs.Reader.{Reader}
use Rattle.item_spec.specs.Refusal.{number_of}
use Rattle.item_spec.specs.declared.Refusal.{Refusal}
use Rattle.read_items.specs.Reads.{Outcome, past, fault, Reads}
use Rattle.read_spec.specs.Lines.{Run, Lines, run_on, hand_on}
use Rattle.read_lines.specs.declared.LineFault.{LineFault}
use Rattle.read_lines.specs.Runs.{onto, fault_at, came, RunsTo}
use Rattle.read_lines.proofs.Lines.{part}
use Rattle.read_lines.proofs.Runs.{run-refused, run-seen}
use Rattle.read_chain.specs.Chain.{placed, shortly}
use Rattle.read_chain.specs.Whole.{whole, beside, place_of, kept}
use Rattle.read_chain.proofs.Chain.{came-kept}
use Rattle.read_chain.proofs.Laws.{putting, put-line, put_refused}
use Rattle.std.specs.Result.{is_err}
use Rattle.std.specs.declared.result.Result.{Result}
use Rattle.std.specs.declared.result.Result.TheVariants.{Ok, Err}

-- what was placed tells what was read
module _ {R : Type 0} (at : ℕ) where
  pub placed-ok : (r : Result R Refusal) {v : R} → Ok v ≡ placed at r → r ≡ Ok v
  placed-ok (Ok w) {v} e =
      let q : w ≡ v = cc in
      ap Ok q
  placed-ok (Err k) e = absurd (cc)

  pub placed-err : (r : Result R Refusal) {f : LineFault Refusal} → Err f ≡ placed at r → (r ≡ Err f.refusal) × (f.at ≡ at)
  placed-err (Ok w) {f} e = absurd (cc)
  placed-err (Err k) {f} e =
      let q : f ≡ record { refusal = k; at = at } = cc in
      (ap (λ (x : LineFault Refusal). Err x.refusal) (sym q), ap (λ (x : LineFault Refusal). x.at) q)

-- the line m, read at the part from `at` on with the answer r
module _ {R A B : Type 0} (says : Result R Refusal → Outcome A) (m : Reader A) (put : A → B) (s : List ℕ) (start at : ℕ) (e : at ≡ min start (length s))
    (r : Result R Refusal) (h : Reads (part s at) (says r) (m (part s at))) where
  pub line-put : {v : R} {x : A} {used : ℕ} → Ok v ≡ placed at r → says (Ok v) ≡ past x used → RunsTo s (onto (put x) (at + used)) (putting m put s start at e)
  line-put o q = put-line m put s start at e (rw (placed-ok at r o, q) at h)

  pub line-stop : {f : LineFault Refusal} → Err f ≡ placed at r → says (Err f.refusal) ≡ fault (number_of f.refusal)
      → RunsTo s (fault_at (number_of f.refusal) f.at) (putting m put s start at e)
  line-stop o q = rw (placed-err at r o).1 (put_refused m put s start at e (rw ((placed-err at r o).0, q) at h))

pub run-given : {A : Type 0} (a : A) {s : List ℕ} {m : Run (Unit {0})} (r : Result ℕ (LineFault Refusal)) → RunsTo s (came r tt) m
    → RunsTo s (came r a) (run_on m (λ _. hand_on a))
run-given a (Ok at) h = run-seen (λ _. a) h
run-given a (Err f) h = run-refused _ _ h

module _ {A : Type 0} (none : A) (m : Lines A) (s : List ℕ) where
  pub came-cleared : (r : Result ℕ (LineFault Refusal)) (a : A) → RunsTo s (came r a) (shortly m s) → is_err r ≡ true → beside (place_of r) none ≡ whole none m s
  came-cleared (Ok at) a h e = absurd (cc)
  came-cleared (Err f) a h e = came-kept none m s (Err f) a h

  pub came-left : (r : Result ℕ (LineFault Refusal)) (a : A) → RunsTo s (came r a) (shortly m s) → is_err r ≡ false → beside (place_of r) a ≡ whole none m s
  came-left (Ok at) a h e = came-kept none m s (Ok at) a h
  came-left (Err f) a h e = absurd (cc)

-- what is kept of a value beside a fault, and beside none
module _ {A : Type 0} (none a : A) where
  pub kept-none : (r : Result ℕ (LineFault Refusal)) → is_err r ≡ true → kept none r a ≡ none
  kept-none (Ok at) e = absurd (cc)
  kept-none (Err f) e = refl

  pub kept-all : (r : Result ℕ (LineFault Refusal)) → is_err r ≡ false → kept none r a ≡ a
  kept-all (Ok at) e = refl
  kept-all (Err f) e = absurd (cc)
