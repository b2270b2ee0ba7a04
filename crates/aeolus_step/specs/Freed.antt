-- Rows of bindings freed one by one.
use Rattle.std.specs.Prelude.{cond, List, ℕ, ◌/◌, eqb, get_or, set}
use Rattle.sets.specs.Mask.{without, only}
use Rattle.aeolus_model.specs.Model.{Configuration}

-- c with these rows of bindings
unfoldable pub with_rows : Configuration → List ℕ → Configuration
with_rows c ms = record { present = c.present; kinds = c.kinds; states = c.states; bound = ms }

-- row n without z
abbrev pub freed_at : ℕ → List ℕ → ℕ → List ℕ
freed_at z ms n = set ms n (cond (eqb (n / 16) z) 0 (without (get_or ms n 0) (only z)))
