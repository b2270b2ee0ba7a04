-- The slot of a pair, id and transition, and what stands there.
use Rattle.std.specs.Prelude.{ℕ, ◌+◌, ◌*◌, Bool, eqb, get_or, set, replicate}
use Rattle.times_spec.specs.declared.Times.{Times}

abbrev pub pair_slot : ℕ → ℕ → ℕ
pair_slot i x = i * 32 + x

abbrev pub is_listed : Times → ℕ → ℕ → Bool
is_listed ts i x = eqb (get_or ts.listed (pair_slot i x) 0) 1

-- "a pair not listed takes 0"
abbrev pub seconds_of : Times → ℕ → ℕ → ℕ
seconds_of ts i x = get_or ts.seconds (pair_slot i x) 0

-- times with this par and no row
unfoldable pub times_of : ℕ → Times
times_of par = record { par = par; listed = replicate 1024 0; seconds = replicate 1024 0 }

abbrev pub no_times : Times
no_times = times_of 0

unfoldable pub with_time : Times → ℕ → ℕ → ℕ → Times
with_time ts i x n = record { par = ts.par; listed = set ts.listed (pair_slot i x) 1; seconds = set ts.seconds (pair_slot i x) n }
