-- A number below a limit, and a number up to the one before it.
-- Assumes nothing.
use Prim.Native.Nat.{ℕ, suc}
use mathlib.Core.Path.{◌≡◌}
use native.Mathlib.Omega.{arith}
use lib.Dec.{ltb, leb}
use borrow.Author.Tests.{leb-true, leb-false, lt-ltb, le-ltb}
use Rattle.item_spec.proofs.Tests.{by-test}

pub below : (a n : ℕ) → ltb a (suc n) ≡ leb a n
below a n = by-test (leb a n) (λ h. rw (h, lt-ltb a (suc n) (omega (arith, leb-true a n h)))) (λ h. rw (h, le-ltb a (suc n) (omega (arith, leb-false a n h))))
