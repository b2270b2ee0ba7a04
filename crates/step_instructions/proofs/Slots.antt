-- Queue slots zeroed one by one.
-- Assumes nothing.
use mathlib.Core.Path.{◌≡◌, refl}
use Prim.Native.Nat.{ℕ, ◌+◌}
use native.Mathlib.Numerals.{add-one}
use lib.ListN.{set}
use Rattle.model.specs.declared.Configuration.{Configuration}
use Rattle.model.specs.View.{with_queue}
use Rattle.rules_spec.specs.Closing.{zeroed}

module _ (c : Configuration) (at : ℕ) where
  pub zero-start : c ≡ with_queue c (zeroed c.queue at 0)
  unfolding with_queue zeroed
  zero-start = refl

  module _ (d : Configuration) (k : ℕ) where
    pub zero_more : d ≡ with_queue c (zeroed c.queue at k) → with_queue d (set d.queue (at + k) 0) ≡ with_queue c (zeroed c.queue at (k + 1))
    unfolding with_queue zeroed
    zero_more e = rw (e, add-one k)
