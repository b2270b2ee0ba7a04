-- A gap in the queue slots closed one by one.
-- Assumes nothing.
use mathlib.Core.Path.{◌≡◌}
use Prim.Native.Nat.{ℕ, ◌+◌, ◌-◌, ◌≤◌}
use native.Mathlib.Nat.{le_antisymm}
use native.Mathlib.Numerals.{add-one}
use lib.ListN.{get_or, set}
use Rattle.model.specs.declared.Configuration.{Configuration}
use Rattle.model.specs.View.{with_queue}
use Rattle.rules_spec.specs.Closing.{down, closed}
use Rattle.rules_spec.proofs.Closing.{down-none, down-next}

module _ (c : Configuration) (at : ℕ) where
  pub down-start : c ≡ with_queue c (down 0 c.queue at 0)
  unfolding with_queue
  down-start = rw (down-none 0 c.queue at)

  module _ (d : Configuration) (k : ℕ) where
    pub down-more : d ≡ with_queue c (down 0 c.queue at k) → with_queue d (set d.queue (at + k) (get_or d.queue (at + k + 1) 0)) ≡ with_queue c (down 0 c.queue at (k + 1))
    unfolding with_queue
    down-more e = rw (e, add-one k, down-next 0 c.queue at k)

    pub down-end : (end : ℕ) → d ≡ with_queue c (down 0 c.queue at k) → k ≤ end - 1 - at → end - 1 - at ≤ k
        → with_queue d (set d.queue (end - 1) 0) ≡ with_queue c (closed 0 c.queue at end)
    unfolding with_queue closed
    down-end end e a b = rw (e, le_antisymm a b)
