-- A line read at a part of the text, a count's limit, and the end of the text.
-- Assumes nothing.
use Prim.Native.Nat.{ℕ, ◌+◌, ◌-◌, ◌<◌, ◌≤◌, zero-le, min}
use mathlib.Core.List.{List}
use mathlib.Core.Bool.{Bool, true, false}
use mathlib.Core.Logic.{by_cases}
use mathlib.Core.Path.{◌≡◌, refl, ap, fun_ext, ◌∙◌}
use native.Mathlib.Omega.{arith}
use native.Mathlib.Decide.{ℕ_discrete}
use borrow.Author.Tests.{eq-eqb, ne_eqb}
use lib.Dec.{leb, leb-zero}
use lib.ListN.{length, take, drop, length-drop, drop_of_length-le}
use lib.Seq.{take_all, drop-drop, drop-cons}
use Rattle.item_spec.specs.Reader.{Reply, Reader}
use Rattle.read_spec.specs.Limits.{five_digits, edition_ok}
use Rattle.read_spec.specs.Kinds.{count_line_in, count_line}
use Rattle.read_spec.specs.Lines.{on, stop, at_end}
use Rattle.read_items.specs.Reads.{Outcome, past, fault, Reads}
use Rattle.read_items.proofs.Laws.{from_end, told}
use Rattle.read_lines.specs.declared.Limit.{Limit}
use Rattle.read_lines.specs.declared.Limit.TheVariants as limit
use Rattle.read_lines.specs.declared.Range.{Range}
use Rattle.item_spec.specs.declared.Refusal.{Refusal}
use Rattle.std.specs.declared.result.Result.{Result}
use Rattle.read_lines.specs.Counts.{limit_ok, range_of, in_range, CountsIn, Counts}

-- ---- a line read at the part of s from start on
-- the outcome's place, counted from the text's start
abbrev pub onward : {A : Type 0} → ℕ → Outcome A → Outcome A
onward start (past a n) = past a (start + n)
onward start (fault k) = fault k

moved : {A : Type 0} (s : List ℕ) (start : ℕ) → start ≤ length s → (o : Outcome A) {m : Reply A} → Reads (drop start s) o m → Reads s (onward start o) m
moved s start l (past a n) h = record { within = omega (arith, rw (length-drop start s) at h.within); same = rw (drop-drop n start s) at h.same }
moved s start l (fault k) h = record { within = zero-le; same = h.same }

-- the text from start on, as a part
abbrev pub part : List ℕ → ℕ → List ℕ
part s start = take (length s - start) (drop start s)

pub rest-is : (start : ℕ) (s : List ℕ) → part s start ≡ drop start s
rest-is start s = take_all (length s - start) (drop start s) (simp length-drop (omega arith))

-- the place at, or the text's end where that lies past it
pub same_rest : (s : List ℕ) (at start : ℕ) → start ≡ min at (length s) → drop start s ≡ drop at s
same_rest s at start e = ap (λ (n : ℕ). drop n s) e ∙ from_end s at

pub place-within : (s : List ℕ) (at : ℕ) → at ≤ length s → at ≡ min at (length s)
place-within s at h = omega arith

-- what was promised of an answer r to that part, and that r is v
module _ {A R : Type 0} (says : R → Outcome A) (m : Reader A) (s : List ℕ) (at start : ℕ) where
  pub line-told : start ≡ min at (length s) → {r : R} (v : R) → Reads (part s start) (says r) (m (part s start)) → r ≡ v
      → Reads s (onward start (says v)) (m (drop at s))
  line-told e v h q =
      let l : start ≤ length s = omega arith in
      rw (same_rest s at start e) at (moved s start l (says v) (told says v (rw (rest-is start s) at h) q))

-- the same where the case of the answer is known
module _ {A : Type 0} (m : Reader A) (s : List ℕ) (at start : ℕ) (e : start ≡ min at (length s)) where
  pub line-there : {o : Outcome A} → Reads (part s start) o (m (part s start)) → Reads s (onward start o) (m (drop at s))
  line-there {o} h =
      let l : start ≤ length s = omega arith in
      rw (same_rest s at start e) at (moved s start l o (rw (rest-is start s) at h))

-- ---- a count's limit
from-none : (b a : ℕ) → leb a b ≡ in_range 0 b a
from-none b a = rw (leb-zero a)

limit_is : (l : Limit) (a : ℕ) → limit_ok l a ≡ in_range (range_of l).0 (range_of l).1 a
limit_is limit.Depth a = from-none 8 a
limit_is limit.Types a = refl
limit_is limit.Places a = refl
limit_is limit.Transitions a = from-none 32 a
limit_is limit.Behaviors a = from-none 8 a
limit_is limit.Ports a = from-none 16 a
limit_is limit.Program a = from-none 256 a
limit_is limit.Steps a = from-none 1024 a

-- a count line by the numbers that its limit lies between
pub count-to : (d b : ℕ) (k s : List ℕ) → count_line_in d k (λ a. leb a b) s ≡ count_line_in d k (in_range 0 b) s
count-to d b k s = ap (λ (f : ℕ → Bool). count_line_in d k f s) (fun_ext (from-none b))

pub count-limit : (l : Limit) (k t : List ℕ) {s : List ℕ} {x : Range} {r : Result (ℕ × ℕ) Refusal} → x ≡ range_of l
    → CountsIn s x.0 x.1 r (count_line_in five_digits k (in_range x.0 x.1) t) → Counts s l r (count_line k (limit_ok l) t)
count-limit l k t e h = rw (fun_ext (limit_is l)) (rw e at h)

-- ---- the end of the text
module _ (s : List ℕ) (at : ℕ) where
  pub end_more : at < length s → at_end (drop at s) ≡ stop 5 (drop at s)
  end_more h = rw (drop-cons s at 0 h)

  pub end-here : length s ≤ at → at_end (drop at s) ≡ on tt (drop at s)
  end-here h = rw (drop_of_length-le s h)

-- the numbers that a sheet opens with
pub edition-in : (a : ℕ) → 1 ≤ a → a ≤ 2 → edition_ok a ≡ true
edition-in a l g = by_cases (ℕ_discrete a 1) (λ e. rw (eq-eqb a 1 e)) (λ e. rw (ne_eqb a 1 e, eq-eqb a 2 (omega arith)))

pub edition-out : (a : ℕ) → (1 ≤ a → a ≤ 2 → ⊥) → edition_ok a ≡ false
edition-out a f = rw (ne_eqb a 1 (λ e. f (omega arith) (omega arith)), ne_eqb a 2 (λ e. f (omega arith) (omega arith)))
