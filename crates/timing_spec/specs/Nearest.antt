-- The mark before the cap by its meaning, over whole numbers: no whole number is nearer to 1,000 times par over the clock, and of two that are
-- equally near it is the lower one.
use Rattle.std.specs.Prelude.{ℕ, ◌+◌, ◌-◌, ◌*◌, ◌≤◌, ◌≡◌}
use Rattle.timing_spec.specs.Mark.{nearest}

-- how far apart two numbers are
abbrev pub apart : ℕ → ℕ → ℕ
apart a b = (a - b) + (b - a)

-- how far n is from 1,000 times par over the clock, in parts of which the clock is one
abbrev pub off : ℕ → ℕ → ℕ → ℕ
off par clock n = apart (n * clock) (1000 * par)

unfoldable pub IsNearest : ℕ → ℕ → ℕ → Type 0
IsNearest par clock m = (n : ℕ) → (off par clock m ≤ off par clock n) × (off par clock m ≡ off par clock n → m ≤ n)

unfoldable pub NearestIsNearest : Type 0
NearestIsNearest = (par clock : ℕ) → 1 ≤ clock → IsNearest par clock (nearest par clock)

-- and no other number is
unfoldable pub OnlyNearest : Type 0
OnlyNearest = (par clock m : ℕ) → 1 ≤ clock → IsNearest par clock m → m ≡ nearest par clock
