-- What had been pushed before the first instruction: the slots from r on that have a ticket, and the last ticket where there is none.
-- Assumes nothing.
use mathlib.Core.Path.{◌≡◌, refl, sym, ap, ◌∙◌}
use mathlib.Core.Logic.{◌≢◌}
use mathlib.Core.Bool.{true, false, or-false}
use mathlib.Core.List.{List, [], ◌∷◌}
use Prim.Native.Nat.{ℕ, suc, ◌+◌, ◌*◌, ◌-◌, ◌≤◌, ◌<◌}
use native.Mathlib.Omega.{arith}
use native.Mathlib.Nat.{add-zero, zero-add}
use lib.Dec.{eqb, leb}
use lib.ListN.{length, get_or}
use borrow.Author.Tests.{eq-eqb, ne_eqb, eqb-true, lt-leb}
use Rattle.item_spec.proofs.Tests.{by-test}
use Rattle.model.specs.declared.Program.{Program}
use Rattle.model.specs.View.{pair_of, stamp_in}
use Rattle.rules_spec.specs.Tickets.{stamped, last_alone, begun_to, not_above, has_stamp, last_stamp}

-- the slots from r on
abbrev pub from : (ℕ → ℕ) → ℕ → List ℕ
from f r = stamped (8 - r) (λ k. f (r + k))

module _ (f : ℕ → ℕ) (r : ℕ) where
  pub from-none : r < 8 → stamp_in (f r) ≡ 0 → from f r ≡ []
  unfolding stamped
  from-none h e = let q : 8 - r ≡ suc (7 - r) = omega arith in rw (q, stamped, add-zero r, eq-eqb (stamp_in (f r)) 0 e) refl

  pub from_more : r < 8 → stamp_in (f r) ≢ 0 → from f r ≡ f r ∷ from f (r + 1)
  unfolding stamped
  from_more h d =
      let q : 8 - r ≡ suc (8 - (r + 1)) = omega arith in
      rw (q, stamped, add-zero r, ne_eqb (stamp_in (f r)) 0 d) (λ i. f r ∷ stamped (8 - (r + 1)) (λ k. f ((let e : r + suc k ≡ r + 1 + k = omega arith in e) i)))

  pub from_end : 8 ≤ r → from f r ≡ []
  unfolding stamped
  from_end h = let q : 8 - r ≡ 0 = omega arith in rw (q, stamped) refl

pub from_first : (f : ℕ → ℕ) → from f 0 ≡ stamped 8 f
from_first f i = stamped 8 (λ k. f (zero-add k i))

-- the stamp of the last one, a where there is none
abbrev pub last_from : ℕ → List ℕ → ℕ
last_from a [] = a
last_from a (s ∷ l) = last_stamp (s ∷ l)

pub last_more : (a s : ℕ) (l : List ℕ) → last_from a (s ∷ l) ≡ last_from (stamp_in s) l
unfolding last_stamp
last_more a s [] = refl
last_more a s (u ∷ l) = refl

alone : (stamp : ℕ) → last_stamp (last_alone stamp) ≡ stamp
unfolding last_stamp
alone stamp = by-test (eqb stamp 0) (λ e. rw e (sym (eqb-true stamp 0 e))) (λ e. rw e (omega arith))

alone-has : (stamp n : ℕ) → has_stamp (n + 1) (last_alone stamp) ≡ eqb stamp (n + 1)
unfolding has_stamp
alone-has stamp n =
    by-test (eqb stamp 0)
    (λ e. rw (e, eqb-true stamp 0 e) (sym (ne_eqb 0 (n + 1) (λ z. omega arith))))
    (λ e. rw e (or-false (eqb (stamp_in (pair_of 0 stamp)) (n + 1)) ∙ ap (λ k. eqb k (n + 1)) (let q : stamp_in (pair_of 0 stamp) ≡ stamp = omega arith in q)))

module _ (p : Program) (i : ℕ) where
  abbrev pub slots : ℕ → ℕ
  slots r = get_or p.begun.queue (i * 8 + r) 0

  pub tail-is : last_from (get_or p.begun.last i 0) (from slots 0) ≡ last_stamp (begun_to p i)
  unfolding begun_to
  tail-is = ap (last_from (get_or p.begun.last i 0)) (from_first slots) ∙ whole (stamped 8 slots)
    where
      whole : (l : List ℕ) → last_from (get_or p.begun.last i 0) l ≡ last_stamp (elim l [ [] ↦ last_alone (get_or p.begun.last i 0) | s ∷ q ↦ s ∷ q ])
      whole [] = sym (alone (get_or p.begun.last i 0))
      whole (s ∷ l) = refl

  pub none_has : (n : ℕ) → stamp_in (slots 0) ≡ 0 → eqb (get_or p.begun.last i 0) (n + 1) ≡ has_stamp (n + 1) (begun_to p i)
  unfolding begun_to
  none_has n e = kept (stamped 8 slots) (sym (from_first slots) ∙ from-none slots 0 (omega arith) e)
    where
      kept : (l : List ℕ) → l ≡ [] → eqb (get_or p.begun.last i 0) (n + 1) ≡ has_stamp (n + 1) (elim l [ [] ↦ last_alone (get_or p.begun.last i 0) | s ∷ q ↦ s ∷ q ])
      kept [] q = sym (alone-has (get_or p.begun.last i 0) n)
      kept (s ∷ l) q = absurd (let z : suc (length l) ≡ 0 = ap length q in omega arith)

  pub some-has : (stamp : ℕ) → stamp_in (slots 0) ≢ 0 → has_stamp stamp (from slots 0) ≡ has_stamp stamp (begun_to p i)
  unfolding begun_to
  some-has stamp d = ap (has_stamp stamp) (from_first slots) ∙ kept (stamped 8 slots) (sym (from_first slots) ∙ from_more slots 0 (omega arith) d)
    where
      kept : (l : List ℕ) → l ≡ slots 0 ∷ from slots (0 + 1) → has_stamp stamp l ≡ has_stamp stamp (elim l [ [] ↦ last_alone (get_or p.begun.last i 0) | s ∷ q ↦ s ∷ q ])
      kept [] q = absurd (let z : 0 ≡ suc (length (from slots (0 + 1))) = ap length q in omega arith)
      kept (s ∷ l) q = refl

-- of those that are left
module _ (stamp : ℕ) (f : ℕ → ℕ) (r : ℕ) where
  pub none_left : from f r ≡ [] → false ≡ has_stamp stamp (from f r)
  unfolding has_stamp
  none_left e = sym (ap (has_stamp stamp) e)

  pub this-one : r < 8 → stamp_in (f r) ≢ 0 → stamp_in (f r) ≡ stamp → true ≡ has_stamp stamp (from f r)
  unfolding has_stamp
  this-one h d e = sym (ap (has_stamp stamp) (from_more f r h d) ∙ rw (eq-eqb (stamp_in (f r)) stamp e) refl)

  pub not-this : r < 8 → stamp_in (f r) ≢ 0 → stamp_in (f r) ≢ stamp → has_stamp stamp (from f (r + 1)) ≡ has_stamp stamp (from f r)
  unfolding has_stamp
  not-this h d e = sym (ap (has_stamp stamp) (from_more f r h d) ∙ rw (ne_eqb (stamp_in (f r)) stamp e) refl)

-- a ticket is not above the last
pub late-last : (n : ℕ) (l : List ℕ) → leb (n + 1) (last_stamp l) ≡ not_above (n + 1) l
unfolding not_above last_stamp
late-last n [] = lt-leb (n + 1) 0 (omega arith)
late-last n (s ∷ []) = refl
late-last n (s ∷ u ∷ l) = late-last n (u ∷ l)
