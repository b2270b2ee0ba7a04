-- A loop that looks for a number below n that fails the test: what it knows at i, where one fails, and one more that passes. Each loop here cites these.
-- Assumes nothing.
use mathlib.Core.Path.{◌≡◌, sym, ◌∙◌}
use mathlib.Core.Bool.{Bool, true, false}
use Prim.Native.Nat.{ℕ, ◌+◌, ◌<◌}
use Rattle.sets.specs.Test.{all_below}
use Rattle.sets.proofs.Laws.{all_more, all-miss}

abbrev pub Passed : (ℕ → Bool) → ℕ → Type 0
Passed test i = all_below i test ≡ true

module _ (test : ℕ → Bool) (i : ℕ) (r : Bool) (is : r ≡ test i) where
  pub one-fails : (n : ℕ) → i < n → r ≡ false → false ≡ all_below n test
  one-fails n l e = sym (all-miss n test i l (sym is ∙ e))

  pub one_more : Passed test i → r ≡ true → Passed test (i + 1)
  one_more h e = all_more i test h (sym is ∙ e)

-- past the last they have all passed
pub all-passed : (n : ℕ) (test : ℕ → Bool) (i : ℕ) → Passed test i → i ≡ n → true ≡ all_below n test
all-passed n test i h e = sym (rw e at h)
