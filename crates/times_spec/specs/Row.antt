-- One row. In one line 2 comes before 3 before 4: the form whole, then the limits, then the pair.
use Rattle.std.specs.Prelude.{ℕ, not, ◌&&◌}
use Rattle.item_spec.specs.Refusal.{beyond_limit, bad_clause}
use Rattle.item_spec.specs.Reader.{Reader, bytes, ◌>>=◌, ◌>>◌, give, check}
use Rattle.item_spec.specs.Read.{key, three_form}
use Rattle.read_spec.specs.Limits.{id_ok, transition_ok}
use Rattle.times_spec.specs.declared.Times.{Times}
use Rattle.times_spec.specs.Limits.{seven_digits, seconds_ok}
use Rattle.times_spec.specs.View.{is_listed}

-- `time=id,transition,seconds`, after the rows so far
unfoldable pub time_line : Times → Reader (ℕ × ℕ × ℕ)
time_line ts = do
  key (bytes "time=")
  (i, x, n) ← three_form seven_digits
  check (id_ok i && (transition_ok x && seconds_ok n)) beyond_limit
  check (not (is_listed ts i x)) bad_clause
  give (i, x, n)
