-- The lowest number that passes: whether there is one, and that tests that agree have the same.
-- Assumes nothing.
use Rattle.std.proofs.Common.{◌≡◌, ℕ, zero, suc, ◌<◌, Bool, ltb, refl, arith, le-ltb, lt-ltb}
use native.Mathlib.Nat.{le_step}
use Rattle.item_spec.proofs.Tests.{by-test}
use Rattle.sets.specs.Test.{any_below, lowest}
use Rattle.sets.proofs.Laws.{any_same}
use Rattle.sets.proofs.Lowest.{lowest-none, lowest-holds}

pub lowest-low : (n : ℕ) (p : ℕ → Bool) → ltb (lowest n p) n ≡ any_below n p
lowest-low n p =
    by-test (any_below n p) (λ on. rw on (lt-ltb _ _ (lowest-holds n p on).below))
    (λ off. rw (off, lowest-none n p off) (le-ltb n n (omega arith)))

pub lowest-same : (n : ℕ) (p q : ℕ → Bool) → ((i : ℕ) → i < n → p i ≡ q i) → lowest n p ≡ lowest n q
unfolding lowest
lowest-same zero p q same = refl
lowest-same (suc n) p q same = rw (any_same (suc n) p q same, lowest-same n p q (λ i h. same i (le_step h)))
