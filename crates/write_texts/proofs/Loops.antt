-- A loop over lines, for the first of their numbers.
-- Assumes nothing.
use Prim.Native.Nat.{ℕ, zero, suc, ◌+◌, ◌<◌}
use mathlib.Core.Path.{◌≡◌, refl, sym, ◌∙◌}
use mathlib.Core.Logic.{◌≢◌, by_cases}
use native.Mathlib.Omega.{arith}
use native.Mathlib.Numerals.{add-one}
use native.Mathlib.Decide.{dec_lt}
use Rattle.rules_spec.specs.Refusal.{or_number}
use Rattle.write_spec.specs.Texts.{first_of}
use Rattle.write_spec.proofs.Turns.{or-zero, or_some}

-- the number n of the line of a count comes before those of the lines
pub limit-first : (a b n : ℕ) → n ≡ a → n ≢ 0 → n ≡ or_number a b
limit-first a b n e some = e ∙ sym (or_some a b (λ z. some (e ∙ z)))

module _ (f : ℕ → ℕ) where
  pub first-start : first_of f 0 ≡ 0
  unfolding first_of
  first-start = refl

  -- the line x, whose number is k, comes after lines that have none
  module _ (x k : ℕ) (before : first_of f x ≡ 0) (is : k ≡ f x) where
    pub first-more : k ≡ 0 → first_of f (x + 1) ≡ 0
    unfolding first_of
    first-more z = rw (add-one x) (or-zero (first_of f x) (f x) before ∙ sym is ∙ z)

    hit : (m : ℕ) → x < m → k ≢ 0 → k ≡ first_of f m
    unfolding first_of
    hit zero l some = absurd (omega arith)
    hit (suc m) l some =
        by_cases (dec_lt x m)
        (λ h. let e = hit m h some in e ∙ sym (or_some (first_of f m) (f m) (λ z. some (e ∙ z))))
        (λ h. let e : x ≡ m = omega arith in is ∙ rw e (sym (or-zero (first_of f m) (f m) (rw e at before))))

    pub line-first : (a n m : ℕ) → n ≡ a → n ≡ 0 → x < m → k ≢ 0 → k ≡ or_number a (first_of f m)
    line-first a n m e z l some = hit m l some ∙ sym (or-zero a (first_of f m) (sym e ∙ z))

  pub none-first : (a n m x : ℕ) → n ≡ a → n ≡ 0 → first_of f x ≡ 0 → x ≡ m → 0 ≡ or_number a (first_of f m)
  none-first a n m x e z h l = sym (or-zero a (first_of f m) (sym e ∙ z) ∙ rw l at h)
