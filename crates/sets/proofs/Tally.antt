-- How many numbers pass a test: none, at most all, and where the test changes at one of them.
-- Assumes nothing.
use mathlib.Core.Path.{◌≡◌, refl, ap, ap₂, ◌∙◌}
use mathlib.Core.Logic.{◌≢◌, ⊎_elim}
use mathlib.Core.Bool.{Bool, true, false, not}
use Prim.Native.Nat.{ℕ, zero, suc, ◌+◌, ◌≤◌, ◌<◌}
use native.Mathlib.Nat.{le_step}
use native.Mathlib.Omega.{arith}
use Rattle.sets.specs.Test.{tally}
use Rattle.sets.proofs.Laws.{below-cases}

one_at_most : (b : Bool) → elim b [ true ↦ 1 | false ↦ 0 ] ≤ 1
one_at_most true = omega arith
one_at_most false = omega arith

pub tally-le : (n : ℕ) (p : ℕ → Bool) → tally n p ≤ n
unfolding tally
tally-le zero p = omega arith
tally-le (suc n) p = omega (arith, tally-le n p, one_at_most (p n))

pub tally-none : (n : ℕ) (p : ℕ → Bool) → ((i : ℕ) → p i ≡ false) → tally n p ≡ 0
unfolding tally
tally-none zero p f = refl
tally-none (suc n) p f = rw (f n, tally-none n p f) refl

pub tally-same : (n : ℕ) (p q : ℕ → Bool) → ((i : ℕ) → i < n → p i ≡ q i) → tally n p ≡ tally n q
unfolding tally
tally-same zero p q f = refl
tally-same (suc n) p q f = ap₂ (λ (m : ℕ) (b : Bool). m + elim b [ true ↦ 1 | false ↦ 0 ]) (tally-same n p q (λ i h. f i (le_step h))) (f n (omega arith))

-- the first one apart
pub tally-first : (n : ℕ) (p : ℕ → Bool) → tally (suc n) p ≡ elim (p 0) [ true ↦ 1 | false ↦ 0 ] + tally n (λ i. p (suc i))
unfolding tally
tally-first zero p = omega arith
tally-first (suc n) p = ap (λ (m : ℕ). m + elim (p (suc n)) [ true ↦ 1 | false ↦ 0 ]) (tally-first n p) ∙ omega arith

-- one more passes
pub tally-one : (n a : ℕ) (p q : ℕ → Bool) → a < n → p a ≡ false → q a ≡ true → ((i : ℕ) → i ≢ a → p i ≡ q i) → tally n q ≡ suc (tally n p)
unfolding tally
tally-one zero a p q h off on same = absurd (omega arith)
tally-one (suc n) a p q h off on same =
    ⊎_elim
    (λ e. rw (← e, off, on, tally-same a p q (λ i l. same i (λ f. omega arith))) (omega arith))
    (λ l. rw (tally-one n a p q l off on same, same n (λ f. omega arith)) (omega arith))
    (below-cases h)

-- those that pass and those that don't
pub tally-both : (n : ℕ) (p : ℕ → Bool) → tally n p + tally n (λ i. not (p i)) ≡ n
unfolding tally
tally-both zero p = refl
tally-both (suc n) p = go (p n) (tally-both n p)
  where
    go : (b : Bool) → tally n p + tally n (λ i. not (p i)) ≡ n
        → (tally n p + elim b [ true ↦ 1 | false ↦ 0 ]) + (tally n (λ i. not (p i)) + elim (not b) [ true ↦ 1 | false ↦ 0 ]) ≡ suc n
    go true e = omega (arith, e)
    go false e = omega (arith, e)
