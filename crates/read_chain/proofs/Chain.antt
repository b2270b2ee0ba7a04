-- A line of one number, and a whole text, each by what its readers promised.
-- Assumes nothing.
use Prim.Native.Nat.{ℕ, ◌-◌, ◌≤◌, ◌<◌, min, zero-le}
use mathlib.Core.List.{List}
use mathlib.Core.Path.{◌≡◌, refl, sym, ap}
use native.Mathlib.Omega.{arith}
use lib.ListN.{length, drop}
use borrow.Author.Tests.{lt-leb, le-leb}
use Rattle.item_spec.specs.declared.Refusal.{Refusal}
use Rattle.item_spec.specs.Refusal.{number_of}
use Rattle.item_spec.specs.Reader.{Reader}
use Rattle.item_spec.proofs.Tests.{by-test}
use Rattle.read_items.specs.Reads.{Reads}
use Rattle.read_spec.specs.Limits.{length_ok}
use Rattle.read_spec.specs.Lines.{Run, Lines, on, stop, line}
use Rattle.read_lines.specs.declared.LineFault.{LineFault}
use Rattle.read_lines.specs.Counts.{line_says, Lies, CountsIn}
use Rattle.read_lines.specs.Runs.{onto, fault_at, came, number_came, RunsTo}
use Rattle.read_lines.proofs.Runs.{stopped, went_on, line_refused, line-read, place_is}
use Rattle.read_chain.specs.declared.Place.{Place}
use Rattle.read_chain.specs.Whole.{outcome, whole, kept, beside, place_of, PlaceOf}
use Rattle.read_chain.specs.Chain.{Few, placed, short, shortly}
use Rattle.std.specs.declared.result.Result.{Result}
use Rattle.std.specs.declared.result.Result.TheVariants.{Ok, Err}

-- ---- a line of one number
module _ (m : Reader ℕ) (s : List ℕ) (start : ℕ) where
  number_read : (x : Result (ℕ × ℕ) Refusal) {r : Result (ℕ × ℕ) (LineFault Refusal)} → Reads s (line_says x) (m (drop start s)) → r ≡ placed (min start (length s)) x
      → RunsTo s (number_came r) (line m (drop start s))
  number_read (Ok (n, to)) h e = rw e (line-read m s start h)
  number_read (Err k) h e = rw e (line_refused m s start refl h)

  number-few : (a b p : ℕ) (x : Result (ℕ × ℕ) Refusal) {r : Result (ℕ × ℕ) (LineFault Refusal)} → Lies a b x → r ≡ placed p x → Few b r
  number-few a b p (Ok (n, to)) l e = rw e l.1
  number-few a b p (Err k) l e = rw e tt

  pub number-line : (x : Result (ℕ × ℕ) Refusal) {a b : ℕ} {r : Result (ℕ × ℕ) (LineFault Refusal)} → CountsIn s a b x (m (drop start s)) → r ≡ placed (min start (length s)) x
      → RunsTo s (number_came r) (line m (drop start s)) × Few b r
  number-line x {a} {b} h e = (number_read x h.reads e, number-few a b _ x h.limited e)

-- ---- a whole text
module _ (s : List ℕ) where
  pub short-long : 32768 < length s → RunsTo s (fault_at 1 0) (short s)
  unfolding short
  short-long l = stopped zero-le (rw (lt-leb (length s) 32768 l, short))

  pub short-fits : length s ≤ 32768 → RunsTo s (onto tt 0) (short s)
  unfolding short
  short-fits l = went_on zero-le (rw (le-leb (length s) 32768 l, short))

-- the number and the place, where the one number that may be meant is 01's
pub place-of : (r : Result ℕ (LineFault Refusal)) {p : Place} → PlaceOf (λ k n. n ≡ number_of k) r p → p ≡ place_of r
place-of (Ok at) e = e
place-of (Err f) (n, e) = λ i. record { refused = n i; place = e i }

module _ {A : Type 0} (none : A) (m : Lines A) (s : List ℕ) where
  whole-shortly : whole none m s ≡ outcome none s (shortly m s)
  unfolding whole shortly short
  whole-shortly =
      by-test (length_ok (length s))
      (λ e. rw (e, whole, short))
      (λ e. rw (e, whole, short) (ap (λ (n : ℕ). record { refused = 1; place = n; value = none }) (let z : 0 ≡ length s - length s = omega arith in z)))

  pub came-kept : (r : Result ℕ (LineFault Refusal)) (a : A) → RunsTo s (came r a) (shortly m s) → beside (place_of r) (kept none r a) ≡ whole none m s
  came-kept (Ok at) a h = rw (whole-shortly, sym h.same, place_is s at h.within)
  came-kept (Err f) a h = rw (whole-shortly, sym h.same, place_is s f.at h.within)

  -- beside a refusal nothing is handed out
  outcome-none : (x : Run A) → ((outcome none s x).refused ≡ 0 → ⊥) → (outcome none s x).value ≡ none
  outcome-none (on a r) n = absurd (n refl)
  outcome-none (stop k r) n = refl

  pub nothing-beside : ((whole none m s).refused ≡ 0 → ⊥) → (whole none m s).value ≡ none
  nothing-beside n = rw whole-shortly (outcome-none (shortly m s) (λ e. n (rw whole-shortly e)))
