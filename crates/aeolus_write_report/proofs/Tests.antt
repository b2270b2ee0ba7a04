-- Two tests of a line that may be absent.
-- Assumes nothing.
use mathlib.Core.Bool.{Bool, true, false, ◌&&◌}
use mathlib.Core.Path.{◌≡◌}

pub first-fails : {a : Bool} (b : Bool) → a ≡ false → (a && b) ≡ false
first-fails b e = rw e

pub second-fails : {a b : Bool} → a ≡ true → b ≡ false → (a && b) ≡ false
second-fails e f = rw (e, f)

pub both_hold : {a b : Bool} → a ≡ true → b ≡ true → (a && b) ≡ true
both_hold e f = rw (e, f)
