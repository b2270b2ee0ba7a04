-- What one more instruction does to the pushes, and the last of them.
-- Assumes nothing.
use mathlib.Core.Path.{◌≡◌, refl}
use mathlib.Core.Bool.{true, false, ◌||◌}
use mathlib.Core.List.{List, [], ◌∷◌, ◌++◌}
use Prim.Native.Nat.{ℕ, suc}
use lib.Dec.{eqb, leb}
use Rattle.model.specs.declared.Program.{Program}
use Rattle.model.specs.View.{stamp_in}
use Rattle.rules_spec.specs.Tickets.{instruction_of, push_of, is_add_of, is_push_to, goes_on, pushed_to, not_above, has_stamp}
use Rattle.item_spec.proofs.Tests.{by-test}

module _ (p : Program) (i n : ℕ) where
  pub pushed-anew : is_add_of i (instruction_of p n) ≡ true → pushed_to p i (suc n) ≡ []
  unfolding pushed_to goes_on
  pushed-anew e = rw e

  pub pushed_more : is_add_of i (instruction_of p n) ≡ false → is_push_to i (instruction_of p n) ≡ true → pushed_to p i (suc n) ≡ pushed_to p i n ++ (push_of (instruction_of p n) ∷ [])
  unfolding pushed_to goes_on
  pushed_more e f = rw (e, f)

  pub pushed-on : is_add_of i (instruction_of p n) ≡ false → is_push_to i (instruction_of p n) ≡ false → pushed_to p i (suc n) ≡ pushed_to p i n
  unfolding pushed_to goes_on
  pushed-on e f = rw (e, f)

pub above-last : (stamp s : ℕ) (l : List ℕ) → not_above stamp (l ++ (s ∷ [])) ≡ leb stamp (stamp_in s)
unfolding not_above
above-last stamp s [] = refl
above-last stamp s (u ∷ []) = refl
above-last stamp s (u ∷ v ∷ l) = above-last stamp s (v ∷ l)

pub has_more : (n : ℕ) (k l : List ℕ) → has_stamp n (k ++ l) ≡ (has_stamp n k || has_stamp n l)
unfolding has_stamp
has_more n [] l = refl
has_more n (s ∷ k) l = by-test (eqb (stamp_in s) n) (λ e. rw e) (λ e. rw e (has_more n k l))
