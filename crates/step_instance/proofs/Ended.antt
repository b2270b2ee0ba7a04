-- Where no transition has ended no place can be entered.
-- Assumes nothing.
use mathlib.Core.Path.{◌≡◌, refl, sym, ap, ◌∙◌}
use mathlib.Core.Bool.{Bool, true, false, not, ◌&&◌, and-true}
use Prim.Native.Nat.{ℕ, ◌<◌, ◌^◌}
use lib.Dec.{eqb}
use native.Mathlib.Omega.{arith}
use Rattle.sets.specs.Test.{any_below}
use Rattle.sets.specs.Mask.{member, within}
use Rattle.sets.proofs.Laws.{none_any, collect-is, collect-lt, member-past, within-without}
use Rattle.model.specs.declared.Tables.{Tables}
use Rattle.model.specs.declared.Instance.{Instance}
use Rattle.rules_spec.specs.Instance.{entering}
use Rattle.rules_spec.specs.Ports.{would_enter}

-- the empty set alone is within the empty set
within-nothing : (xs : ℕ) → xs < 2 ^ 32 → within xs 0 ≡ eqb xs 0
within-nothing xs h =
    sym (within-without xs 0) ∙ ap (λ (x : ℕ). eqb x 0) (sym (collect-is 32 _ xs h (λ j _. rw (member-past 0 j 0 (omega arith) (omega arith)) (sym (and-true (member j xs))))))

never : (b d : Bool) → (not b && (b && d)) ≡ false
never true d = refl
never false d = refl

entering-lt : (t : Tables) (k m p : ℕ) → entering t k m p < 2 ^ 32
unfolding entering
entering-lt t k m p = collect-lt 32 _

pub none-entered : (t : Tables) (v : Instance) (m q : ℕ) → v.ended ≡ 0 → any_below 16 (would_enter t v m q) ≡ false
unfolding would_enter
none-entered t v m q e =
    none_any 16 _ (λ p _. rw (e, within-nothing (entering t v.kind m p) (entering-lt t v.kind m p)) (never (eqb (entering t v.kind m p) 0) _))
