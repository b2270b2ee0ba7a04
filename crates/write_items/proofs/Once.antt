-- No other position and no other bytes fit what a writer promises.
-- Assumes nothing.
use Prim.Native.Nat.{ℕ, ◌-◌}
use mathlib.Core.Path.{◌≡◌, sym, ap, ◌∙◌}
use mathlib.Core.List.{◌++◌}
use lib.ListN.{length, take, drop}
use Rattle.item_spec.specs.Once.{NoOtherEquals}
use Rattle.item_spec.proofs.Once.{no-other-equals}
use Rattle.write_items.specs.Written.{NoOtherWritten}

pub written_once : NoOtherWritten
unfolding NoOtherWritten NoOtherEquals
written_once old bytes b c from n m h g =
    let e : n ≡ m = no-other-equals ℕ _ n m h.to_is g.to_is in
    (h.new_is ∙ ap (λ (k : ℕ). take from old ++ take (length old - from) bytes ++ drop k old) e ∙ sym g.new_is, e)
