-- The members of a mask, ascending, as they are written: none at or above a bound, and one more on top.
-- Assumes nothing.
use Prim.Native.Nat.{ℕ, zero, suc, ◌+◌, ◌^◌, ◌<◌, ◌≤◌}
use mathlib.Core.List.{List, [], ◌∷◌, ◌++◌, append-nil}
use mathlib.Core.Bool.{Bool, true, false, or-true, or-false, ◌||◌}
use mathlib.Core.Path.{◌≡◌, refl, sym, ap, ap₂, ◌∙◌}
use mathlib.Core.Logic.{⊎_elim}
use native.Mathlib.Nat.{le_step, le_of_suc-le-suc, eq-or-lt_of_le}
use native.Mathlib.Omega.{arith}
use borrow.Author.Tests.{eq-eqb, ne_eqb}
use Rattle.sets.specs.Mask.{member}
use Rattle.sets.proofs.Laws.{member-past, member-add, add-lt}
use Rattle.item_spec.specs.Write.{only_if, members_below}

module _ (n m : ℕ) where
  pub below-has : member n m ≡ true → members_below (suc n) m ≡ members_below n m ++ (n ∷ [])
  unfolding members_below
  below-has e = rw e

  pub below-not : member n m ≡ false → members_below (suc n) m ≡ members_below n m
  unfolding members_below
  below-not e = rw e (append-nil (members_below n m))

-- masks with the same members below n
pub below-same : (n a b : ℕ) → ((j : ℕ) → j < n → member j a ≡ member j b) → members_below n a ≡ members_below n b
unfolding members_below
below-same zero a b f = refl
below-same (suc n) a b f = ap₂ (λ (l : List ℕ) (t : Bool). l ++ only_if t (n ∷ [])) (below-same n a b (λ j h. f j (le_step h))) (f n (omega arith))

-- no member at or above v
pub below-bound : (n m v : ℕ) → m < 2 ^ v → v ≤ n → members_below n m ≡ members_below v m
below-bound zero m v h g = ap (λ (x : ℕ). members_below x m) (omega arith)
below-bound (suc n) m v h g =
    ⊎_elim (λ e. ap (λ (x : ℕ). members_below x m) (sym e))
    (λ l. let k = le_of_suc-le-suc l in below-not n m (member-past v n m k h) ∙ below-bound n m v h k)
    (eq-or-lt_of_le g)

-- one member more, above all others
pub members-add : (n m v : ℕ) → m < 2 ^ v → v < n → members_below n (m + 2 ^ v) ≡ members_below n m ++ (v ∷ [])
members-add n m v h g =
    below-bound n (m + 2 ^ v) (suc v) (add-lt v m h) g
    ∙ below-has v (m + 2 ^ v) (member-add v m h v ∙ ap (λ (b : Bool). member v m || b) (eq-eqb v v refl) ∙ or-true (member v m))
    ∙ ap (λ (l : List ℕ). l ++ (v ∷ [])) (below-same v (m + 2 ^ v) m lower ∙ sym (below-bound n m v h (omega arith)))
  where
    lower : (j : ℕ) → j < v → member j (m + 2 ^ v) ≡ member j m
    lower j l = member-add v m h j ∙ ap (λ (b : Bool). member j m || b) (ne_eqb j v (λ e. omega arith)) ∙ or-false (member j m)
