-- "With every step allowed, the mark in thousandths is 1,000 times par over the clock, rounded to nearest with halves going down, once, at most
-- 1,000; a clock of 0 gives 1,000." After a refused step it is 0. That `nearest` is the nearest is proved (Nearest).
use Rattle.std.specs.Prelude.{ℕ, ◌+◌, ◌-◌, ◌*◌, ◌/◌, min, cond, eqb}

unfoldable pub nearest : ℕ → ℕ → ℕ
nearest par clock = (2000 * par + clock - 1) / (2 * clock)

unfoldable pub mark_of : ℕ → ℕ → ℕ
mark_of par clock = cond (eqb clock 0) 1000 (min 1000 (nearest par clock))

-- refused is the number of the refused step, or 0
unfoldable pub mark_after : ℕ → ℕ → ℕ → ℕ
mark_after refused par clock = cond (eqb refused 0) (mark_of par clock) 0
