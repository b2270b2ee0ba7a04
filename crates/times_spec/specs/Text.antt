-- "`times=1`, `par=` (1 to 1,000,000 seconds), `rows=` (0 to 1,024), then `time=id,transition,seconds`": the lines in order.
use Rattle.std.specs.Prelude.{ℕ}
use Rattle.item_spec.specs.Reader.{bytes}
use Rattle.read_spec.specs.Lines.{Lines, ◌>>=◌, ◌>>◌, hand_on, line, each, at_end}
use Rattle.read_spec.specs.Kinds.{due_line, count_line_in}
use Rattle.times_spec.specs.declared.Times.{Times}
use Rattle.times_spec.specs.Limits.{seven_digits, par_ok, rows_ok}
use Rattle.times_spec.specs.View.{times_of, with_time}
use Rattle.times_spec.specs.Row.{time_line}

unfoldable pub time : ℕ → Times → Lines Times
time j ts = do
  (i, x, n) ← line (time_line ts)
  hand_on (with_time ts i x n)

-- another number than 1 in the first line is a form fault, of however many digits
unfoldable pub times : Lines Times
times = do
  line (due_line (bytes "times=") 1)
  par ← line (count_line_in seven_digits (bytes "par=") par_ok)
  n ← line (count_line_in seven_digits (bytes "rows=") rows_ok)
  ts ← each time n 0 (times_of par)
  at_end
  hand_on ts
