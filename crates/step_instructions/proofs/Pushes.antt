-- The instruction before place k, and what was pushed before it.
-- Assumes nothing.
use mathlib.Core.Path.{◌≡◌, refl, sym, ap, ◌∙◌}
use mathlib.Core.Bool.{Bool, true, false, ◌&&◌, ◌||◌, or-true, or-false, false≢true}
use mathlib.Core.List.{List, [], ◌∷◌, ◌++◌}
use Prim.Native.Nat.{ℕ, suc, ◌-◌, ◌<◌}
use native.Mathlib.Omega.{arith}
use lib.Dec.{eqb}
use Rattle.item_spec.proofs.Tests.{by-test}
use Rattle.model.specs.declared.Instruction.{Instruction}
use Rattle.model.specs.declared.Program.{Program}
use Rattle.model.specs.declared.Tables.{Tables}
use Rattle.model.specs.declared.Configuration.{Configuration}
use Rattle.model.specs.View.{stamp_in, behavior_in}
use Rattle.rules_spec.specs.PushB.{push_with, pushb_check}
use Rattle.rules_spec.specs.Tickets.{instruction_of, push_of, is_add_of, is_push_to, begun_to, pushed_to, has_stamp, last_stamp}
use Rattle.rules_spec.proofs.Tickets.{pushed-anew, pushed_more, pushed-on, has_more}

last-of : (s : ℕ) (l : List ℕ) → last_stamp (l ++ (s ∷ [])) ≡ stamp_in s
unfolding last_stamp
last-of s [] = refl
last-of s (u ∷ []) = refl
last-of s (u ∷ v ∷ l) = last-of s (v ∷ l)

module _ (p : Program) (i k : ℕ) (some : 0 < k) (x : Instruction) (is : x ≡ instruction_of p (k - 1)) where
  back : pushed_to p i k ≡ pushed_to p i (suc (k - 1))
  back = ap (pushed_to p i) (omega arith)

  anew : is_add_of i x ≡ true → pushed_to p i k ≡ []
  anew e = back ∙ pushed-anew p i (k - 1) (rw (← is) e)

  more : is_add_of i x ≡ false → is_push_to i x ≡ true → pushed_to p i k ≡ pushed_to p i (k - 1) ++ (push_of x ∷ [])
  more e f = back ∙ pushed_more p i (k - 1) (rw (← is) e) (rw (← is) f) ∙ ap (λ (y : Instruction). pushed_to p i (k - 1) ++ (push_of y ∷ [])) (sym is)

  on : is_add_of i x ≡ false → is_push_to i x ≡ false → pushed_to p i k ≡ pushed_to p i (k - 1)
  on e f = back ∙ pushed-on p i (k - 1) (rw (← is) e) (rw (← is) f)

  -- the last
  pub none_last : is_add_of i x ≡ true → 0 ≡ last_stamp (pushed_to p i k)
  unfolding last_stamp
  none_last e = sym (ap last_stamp (anew e))

  pub this-last : is_add_of i x ≡ false → is_push_to i x ≡ true → stamp_in (push_of x) ≡ last_stamp (pushed_to p i k)
  this-last e f = sym (ap last_stamp (more e f) ∙ last-of (push_of x) (pushed_to p i (k - 1)))

  pub earlier-last : is_add_of i x ≡ false → is_push_to i x ≡ false → last_stamp (pushed_to p i (k - 1)) ≡ last_stamp (pushed_to p i k)
  earlier-last e f = sym (ap last_stamp (on e f))

-- one of them
module _ (p : Program) (i k stamp : ℕ) (some : 0 < k) (x : Instruction) (is : x ≡ instruction_of p (k - 1)) where
  pub none_made : is_add_of i x ≡ true → false ≡ has_stamp stamp (pushed_to p i k)
  unfolding has_stamp
  none_made e = sym (ap (has_stamp stamp) (anew p i k some x is e))

  made : is_add_of i x ≡ false → is_push_to i x ≡ true → has_stamp stamp (pushed_to p i k) ≡ (has_stamp stamp (pushed_to p i (k - 1)) || eqb (stamp_in (push_of x)) stamp)
  unfolding has_stamp
  made e f = ap (has_stamp stamp) (more p i k some x is e f) ∙ has_more stamp (pushed_to p i (k - 1)) (push_of x ∷ []) ∙ ap (λ b. has_stamp stamp (pushed_to p i (k - 1)) || b) (or-false (eqb (stamp_in (push_of x)) stamp))

  pub this-made : is_add_of i x ≡ false → (n : ℕ) → n ≡ stamp_in (push_of x) → (is_push_to i x && eqb n stamp) ≡ true → true ≡ has_stamp stamp (pushed_to p i k)
  this-made e n q h =
      by-test (is_push_to i x)
      (λ f. sym (made e f ∙ rw (← q, rw f at h) (or-true (has_stamp stamp (pushed_to p i (k - 1))))))
      (λ f. absurd (false≢true (rw f at h)))

  pub earlier-made : is_add_of i x ≡ false → (n : ℕ) → n ≡ stamp_in (push_of x) → (is_push_to i x && eqb n stamp) ≡ false → has_stamp stamp (pushed_to p i (k - 1)) ≡ has_stamp stamp (pushed_to p i k)
  earlier-made e n q h =
      by-test (is_push_to i x)
      (λ f. sym (made e f ∙ rw (← q, rw f at h) (or-false (has_stamp stamp (pushed_to p i (k - 1))))))
      (λ f. sym (ap (has_stamp stamp) (on p i k some x is e f)))

-- before the first instruction
pub first-last : (p : Program) (i k : ℕ) → k ≡ 0 → last_stamp (begun_to p i) ≡ last_stamp (pushed_to p i k)
unfolding pushed_to
first-last p i k e = rw e refl

pub first_made : (p : Program) (i k stamp : ℕ) → k ≡ 0 → has_stamp stamp (begun_to p i) ≡ has_stamp stamp (pushed_to p i k)
unfolding pushed_to
first_made p i k stamp e = rw e refl

-- a push is checked by its behavior alone, its ticket aside
pub same-push : (default : ℕ) (t : Tables) (c : Configuration) (i a b : ℕ) (late : Bool) → behavior_in a ≡ behavior_in b → pushb_check default t c i (push_with a late) ≡ pushb_check default t c i (push_with b late)
unfolding pushb_check
same-push default t c i a b late e = rw e
