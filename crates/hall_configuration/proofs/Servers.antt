-- A table is lawful where each of its use ports is.
-- Assumes nothing.
use mathlib.Core.Path.{◌≡◌, refl, sym, ap, ap₂, ◌∙◌}
use mathlib.Core.Bool.{Bool, ◌&&◌, and-true, and_assoc}
use mathlib.Core.List.{List, [], ◌∷◌}
use Prim.Native.Nat.{ℕ, zero, suc, ◌+◌}
use native.Mathlib.Omega.{arith}
use lib.ListN.{length}
use Rattle.sets.specs.Test.{all_below}
use Rattle.sets.proofs.Laws.{all_same}
use Rattle.model.specs.declared.Tables.{Tables}
use Rattle.model.specs.declared.Configuration.{Configuration}
use Rattle.model.specs.View.{server}
use Rattle.hall_configuration.specs.Lawful.{connection_lawful, lawful_from}

-- the first one apart
all_first : (n : ℕ) (p : ℕ → Bool) → all_below (suc n) p ≡ (p 0 && all_below n (λ i. p (suc i)))
unfolding all_below
all_first zero p = sym (and-true (p 0))
all_first (suc n) p = ap (λ (b : Bool). b && p (suc n)) (all_first n p) ∙ and_assoc (p 0) _ (p (suc n))

module _ (t : Tables) (c : Configuration) where
  -- the use port of number s, in the table x
  abbrev pub lawful_at : List ℕ → ℕ → Bool
  lawful_at x s = connection_lawful t c s (server x s)

  from_all : (x : List ℕ) (s : ℕ) → lawful_from t c s x ≡ all_below (length x) (λ r. connection_lawful t c (s + r) (server x r))
  unfolding lawful_from all_below
  from_all [] s = refl
  from_all (v ∷ x) s =
      ap₂ (λ (n : ℕ) (b : Bool). connection_lawful t c n v && b) (let e : s ≡ s + 0 = omega arith in e)
      (from_all x (suc s) ∙ all_same (length x) _ _ (λ r h. ap (λ (n : ℕ). connection_lawful t c n (server x r)) (let e : suc s + r ≡ s + suc r = omega arith in e)))
      ∙ sym (all_first (length x) (λ r. connection_lawful t c (s + r) (server (v ∷ x) r)))

  pub lawful-all : (x : List ℕ) → length x ≡ 512 → lawful_from t c 0 x ≡ all_below 512 (lawful_at x)
  lawful-all x full =
      from_all x 0 ∙ all_same (length x) _ _ (λ r h. ap (λ (n : ℕ). connection_lawful t c n (server x r)) (let e : 0 + r ≡ r = omega arith in e))
      ∙ ap (λ (n : ℕ). all_below n (lawful_at x)) full
