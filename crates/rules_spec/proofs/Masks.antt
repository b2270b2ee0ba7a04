-- What a member of a set tells, and that a transition which becomes ended is held as before.
-- Assumes nothing.
use mathlib.Core.Path.{◌≡◌, refl, sym, ap, ◌∙◌}
use mathlib.Core.Logic.{◌⊎◌, inl, inr, by_cases}
use mathlib.Core.Bool.{Bool, true, false, not, ◌&&◌, ◌||◌, or-true, or-false, and-true, and-eq-true_iff, false≢true}
use Prim.Native.Nat.{ℕ, ◌<◌}
use native.Mathlib.Omega.{arith}
use native.Mathlib.Decide.{dec_lt}
use lib.Dec.{eqb}
use borrow.Author.Tests.{eqb-true, not-true}
use Rattle.sets.specs.Mask.{member, collect, only, with, without, joined, overlaps}
use Rattle.sets.proofs.Laws.{any_same, member-collect, member-past, collect-lt, member-only, member-with, member-without, member-joined}
use Rattle.model.specs.declared.Tables.{Tables}
use Rattle.model.specs.declared.Instance.{Instance}
use Rattle.model.specs.View.{group_places, group_transitions}
use Rattle.rules_spec.specs.Instance.{active, ended_by}

pub in-collect : (n : ℕ) (p : ℕ → Bool) (j : ℕ) → member j (collect n p) ≡ true → (j < n) × (p j ≡ true)
in-collect n p j e =
    by_cases (dec_lt j n) (λ l. (l, sym (member-collect n p j l) ∙ e))
    (λ l. absurd (false≢true (sym (member-past n j (collect n p) (omega arith) (collect-lt n p)) ∙ e)))

pub none-in-zero : (j : ℕ) → member j 0 ≡ true → ⊥
none-in-zero j e = false≢true (sym (member-past 0 j 0 (omega arith) (omega arith)) ∙ e)

either : (a b : Bool) → (a || b) ≡ true → (a ≡ true) ⊎ (b ≡ true)
either true b e = inl refl
either false b e = inr e

pub neither : (a b : Bool) → (a || b) ≡ false → (a ≡ false) × (b ≡ false)
neither true b e = absurd (false≢true (sym e))
neither false b e = (refl, e)

module _ (j a b : ℕ) where
  pub in_without : member j (without a b) ≡ true → (member j a ≡ true) × (member j b ≡ false)
  in_without e = let (x, y) = (and-eq-true_iff (member j a) _).0 (in-collect 32 _ j e).1 in (x, not-true (member j b) y)

  pub in-joined : member j (joined a b) ≡ true → (member j a ≡ true) ⊎ (member j b ≡ true)
  in-joined e = either (member j a) (member j b) (in-collect 32 _ j e).1

  pub in-with : member j (with a b) ≡ true → (member j b ≡ true) ⊎ (eqb j a ≡ true)
  in-with e = either (member j b) (eqb j a) (in-collect 32 _ j e).1

-- an ended transition is held as before
pub end-active : (t : Tables) (v : Instance) (x q : ℕ) → member x v.running ≡ true → active t (ended_by v x) q ≡ active t v q
unfolding active ended_by
end-active t v x q on =
    ap (λ (b : Bool). overlaps v.marked (group_places t v.kind q) || b)
    (any_same 32 _ _ (λ j l. ap (λ (b : Bool). b && member j (group_transitions t v.kind q)) (same j l)))
  where
    moved : (j : ℕ) (b : Bool) → eqb j x ≡ b → ((member j v.running && not b) || (member j v.ended || b)) ≡ (member j v.running || member j v.ended)
    moved j true e = rw (or-true (member j v.ended), or-true (member j v.running && false), eqb-true j x e, on)
    moved j false e = rw (and-true (member j v.running), or-false (member j v.ended))

    same : (j : ℕ) → j < 32 → member j (joined (without v.running (only x)) (with x v.ended)) ≡ member j (joined v.running v.ended)
    same j l =
        rw (member-joined j (without v.running (only x)) (with x v.ended) l, member-without j v.running (only x) l, member-only j x l, member-with j x v.ended l, member-joined j v.running v.ended l)
        (moved j (eqb j x) refl)
