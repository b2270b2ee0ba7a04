-- That no other case fits a reader's promise: the place and the reply fix what the enum says, and that fixes the enum.
-- Assumes nothing.
use Prim.Native.Nat.{ℕ, zero, suc, ◌≤◌}
use mathlib.Core.List.{List}
use mathlib.Core.Path.{◌≡◌, refl, sym, ap, ◌∙◌}
use native.Mathlib.Omega.{arith}
use lib.ListN.{length, drop, length-drop}
use Rattle.item_spec.specs.Reader.{Reply, refused}
use Rattle.item_spec.specs.Refusal.{number_of}
use Rattle.item_spec.proofs.Laws.{not-got, got-value, got-rest}
use Rattle.read_items.specs.Reads.{Outcome, past, fault, Reads, NoOther}
use Rattle.read_items.specs.Within.{numbers_says}
use Rattle.read_items.specs.Says.{due_says, number_says, list_says, lists_says}
use Rattle.item_spec.specs.declared.Refusal.{Refusal}
use Rattle.item_spec.specs.declared.Refusal.TheVariants as refusal
use Rattle.std.specs.declared.option.Option.TheVariants.{Some, None}
use Rattle.std.specs.declared.result.Result.TheVariants.{Ok, Err}

-- a place within the text is told by the text from it on
pub place-once : (s : List ℕ) (a b : ℕ) → a ≤ length s → b ≤ length s → drop a s ≡ drop b s → a ≡ b
place-once s a b h g e = omega (arith, simp length-drop at (ap length e))

refused-number : {A : Type 0} {n k : ℕ} → ◌≡◌ {A = Reply A} (refused n) (refused k) → n ≡ k
refused-number {n = n} {k = k} e = cc

module _ {A : Type 0} (s : List ℕ) where
  same_outcome : (m : Reply A) (o p : Outcome A) → Reads s o m → Reads s p m → o ≡ p
  same_outcome m (past a n) (past b k) h g =
      let e = h.same ∙ sym g.same in
      let v = got-value e in
      let w = place-once s n k h.within g.within (got-rest e) in
      cc
  same_outcome m (past a n) (fault k) h g = absurd (not-got (g.same ∙ sym h.same))
  same_outcome m (fault n) (past b k) h g = absurd (not-got (h.same ∙ sym g.same))
  same_outcome m (fault n) (fault k) h g = ap fault (refused-number (h.same ∙ sym g.same))

-- for any enum that what it says gives back
pub no_other : {A R : Type 0} (says : R → Outcome A) (back : Outcome A → R) → ((r : R) → back (says r) ≡ r) → NoOther says
unfolding NoOther
no_other says back e s m r q h g = sym (e r) ∙ ap back (same_outcome s m (says r) (says q) h g) ∙ e q

pub due-once : NoOther due_says
due-once = no_other due_says (elim [ past a n ↦ Some n | fault k ↦ None ]) (elim [ Some n ↦ refl | None ↦ refl ])

pub number-once : NoOther number_says
number-once = no_other number_says (elim [ past a n ↦ Some (a, n) | fault k ↦ None ]) (elim [ Some (a, n) ↦ refl | None ↦ refl ])

pub list-once : NoOther list_says
list-once =
    no_other list_says
    (elim [ past a n ↦ Some (record { mask = a.mask; top = a.top }, n) | fault k ↦ None ])
    (elim [ Some (l, n) ↦ refl | None ↦ refl ])

pub lists-once : NoOther lists_says
lists-once =
    no_other lists_says
    (elim [ past a n ↦ Some (record { mask = a.0.mask; top = a.0.top }, record { mask = a.1.mask; top = a.1.top }, n) | fault k ↦ None ])
    (elim [ Some (l, m, n) ↦ refl | None ↦ refl ])

-- the refusal of a number
pub refusal_by : ℕ → Refusal
refusal_by zero = refusal.TooLong
refusal_by (suc zero) = refusal.TooLong
refusal_by (suc (suc zero)) = refusal.BadForm
refusal_by (suc (suc (suc zero))) = refusal.BeyondLimit
refusal_by (suc (suc (suc (suc zero)))) = refusal.BadClause
refusal_by (suc (suc (suc (suc (suc n))))) = refusal.BytesAfter

pub refusal-back : (r : Refusal) → refusal_by (number_of r) ≡ r
unfolding refusal_by
refusal-back refusal.TooLong = refl
refusal-back refusal.BadForm = refl
refusal-back refusal.BeyondLimit = refl
refusal-back refusal.BadClause = refl
refusal-back refusal.BytesAfter = refl

pub numbers-once : NoOther numbers_says
numbers-once =
    no_other numbers_says
    (elim [ past a n ↦ Ok (a, n) | fault k ↦ Err (refusal_by k) ])
    (elim [ Ok (a, n) ↦ refl | Err r ↦ ap Err (refusal-back r) ])
