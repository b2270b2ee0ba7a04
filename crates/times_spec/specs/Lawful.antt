-- What a text of times gives keeps to its limits.
use Rattle.std.specs.Prelude.{ℕ, ◌≤◌, List, ◌≡◌, get_or}
use Rattle.read_spec.specs.Lines.{on}
use Rattle.times_spec.specs.declared.Times.{Times}
use Rattle.times_spec.specs.Text.{times}

pub record Limited (ts : Times) : Type 0 where
  pub some : 1 ≤ ts.par
  pub par : ts.par ≤ 1000000
  pub seconds : (j : ℕ) → get_or ts.seconds j 0 ≤ 86400

unfoldable pub TimesAreLimited : Type 0
TimesAreLimited = (s r : List ℕ) (ts : Times) → times s ≡ on ts r → Limited ts
