-- The lowest number that passes a test.
-- Assumes nothing.
use mathlib.Core.Path.{◌≡◌, refl, sym, ◌∙◌}
use mathlib.Core.Logic.{⊎_elim}
use mathlib.Core.Bool.{Bool, true, false, false≢true}
use Prim.Native.Nat.{ℕ, zero, suc, ◌<◌}
use native.Mathlib.Nat.{le_step}
use native.Mathlib.Omega.{arith}
use Rattle.sets.specs.Test.{any_below, lowest, Lowest}
use Rattle.sets.proofs.Laws.{below-cases, any-hit, any_none, none_any}

pub lowest-none : (n : ℕ) (p : ℕ → Bool) → any_below n p ≡ false → lowest n p ≡ n
unfolding lowest
lowest-none zero p e = refl
lowest-none (suc n) p e = rw e

pub lowest-is : (n : ℕ) (p : ℕ → Bool) (i : ℕ) → i < n → p i ≡ true → ((j : ℕ) → j < i → p j ≡ false) → lowest n p ≡ i
unfolding lowest
lowest-is zero p i h e f = absurd (omega arith)
lowest-is (suc n) p i h e f =
    rw (any-hit (suc n) p i h e)
    (⊎_elim (λ q. lowest-none n p (none_any n p (λ j l. f j (omega arith))) ∙ sym q) (λ l. lowest-is n p i l e f) (below-cases h))

any_last : (n : ℕ) (p : ℕ → Bool) → any_below n p ≡ false → any_below (suc n) p ≡ true → p n ≡ true
unfolding any_below
any_last n p q e = rw q at e

pub lowest-holds : (n : ℕ) (p : ℕ → Bool) → any_below n p ≡ true → Lowest n p (lowest n p)
unfolding lowest any_below
lowest-holds zero p e = absurd (false≢true e)
lowest-holds (suc n) p e = rw e (go (any_below n p) refl (lowest-holds n p))
  where
    go : (b : Bool) → any_below n p ≡ b → (any_below n p ≡ true → Lowest n p (lowest n p)) → Lowest (suc n) p (lowest n p)
    go true q f = let low = f q in record { below = le_step low.below; passes = low.passes; first = low.first }
    go false q f = rw (lowest-none n p q) (record { below = omega arith; passes = any_last n p q e; first = λ j l. any_none n p q j l })
