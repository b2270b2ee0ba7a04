-- What reading a text of times answers, as one function of the text.
use Rattle.std.specs.Prelude.{ℕ, ◌-◌, List, true, false, ◌≡◌, length}
use Rattle.item_spec.specs.Refusal.{too_long}
use Rattle.read_spec.specs.Limits.{length_ok}
use Rattle.read_spec.specs.Lines.{Run, on, stop}
use Rattle.times_spec.specs.declared.Times.{Times}
use Rattle.times_spec.specs.View.{no_times}
use Rattle.times_spec.specs.Text.{times}
use Rattle.read_times.specs.declared.TimesRead.{TimesRead}

-- nothing is handed out beside a refusal
abbrev pub refused_times : ℕ → ℕ → TimesRead
refused_times k at = record { refused = k; place = at; times = no_times }

-- the place is where the rest starts: the line at fault, or the text's end
abbrev pub answered : List ℕ → Run Times → TimesRead
answered s (on ts r) = record { refused = 0; place = length s - length r; times = ts }
answered s (stop k r) = refused_times k (length s - length r)

-- "a too long text first": 1, at its start; then the lines
unfoldable pub times_read : List ℕ → TimesRead
times_read s = elim (length_ok (length s)) [ true ↦ answered s (times s) | false ↦ refused_times too_long 0 ]

-- no other answer fits the promise
unfoldable pub NoOtherTimes : Type 0
NoOtherTimes = (s : List ℕ) (r q : TimesRead) → r ≡ times_read s → q ≡ times_read s → r ≡ q
