-- What a text of times gives keeps to its limits; where it stops is a place of the text, with a number from 2 to 5.
-- Assumes nothing.
use Prim.Native.Nat.{ℕ, zero, suc, ◌≤◌, zero-le}
use mathlib.Core.List.{List, [], ◌∷◌}
use mathlib.Core.Bool.{true, not}
use mathlib.Core.Path.{◌≡◌}
use native.Mathlib.Omega.{arith}
use lib.Dec.{leb}
use borrow.Author.Tests.{leb-true}
use lib.ListN.{get_or, set, replicate}
use Rattle.item_spec.specs.Reader.{bytes}
use Rattle.item_spec.proofs.Tests.{and_left, and_right}
use Rattle.read_spec.specs.Lines.{stop}
use Rattle.read_spec.specs.Limits.{id_ok, transition_ok}
use Rattle.read_spec.proofs.Rests.{limit-fault, clause-fault, Reads, reads_then, reads-give, reads-check, reads-key, Runs, runs_then, runs-give, runs-line, runs-each, runs-end, StopsAt, run-stops, run-gives}
use Rattle.read_spec.proofs.Shapes.{reads_three}
use Rattle.read_spec.proofs.Kept.{reads-due, reads-count-in}
use Rattle.times_spec.specs.declared.Times.{Times}
use Rattle.times_spec.specs.Limits.{seven_digits, par_ok, rows_ok, seconds_ok}
use Rattle.times_spec.specs.View.{is_listed, times_of, with_time, pair_slot}
use Rattle.times_spec.specs.Row.{time_line}
use Rattle.times_spec.specs.Text.{time, times}
use Rattle.times_spec.specs.Lawful.{Limited, TimesAreLimited}

reads-time : (ts : Times) → Reads (λ (y : ℕ × ℕ × ℕ). y.2 ≤ 86400) (time_line ts)
unfolding time_line
reads-time ts =
    reads_then (reads-key (bytes "time=")) (λ _ _.
    reads_then (reads_three seven_digits) (λ (i, x, n) _.
    reads_then (reads-check _ limit-fault) (λ _ e.
    reads_then (reads-check (not (is_listed ts i x)) clause-fault) (λ _ _.
    reads-give (leb-true n 86400 (and_right (transition_ok x) (seconds_ok n) (and_right (id_ok i) _ e)))))))

-- a slot more keeps a bound that all slots have, and so does none
set-le : (bound : ℕ) (l : List ℕ) (i a j : ℕ) → ((k : ℕ) → get_or l k 0 ≤ bound) → a ≤ bound → get_or (set l i a) j 0 ≤ bound
set-le bound [] i a j h g = zero-le
set-le bound (x ∷ l) zero a zero h g = g
set-le bound (x ∷ l) zero a (suc j) h g = h (suc j)
set-le bound (x ∷ l) (suc i) a zero h g = h zero
set-le bound (x ∷ l) (suc i) a (suc j) h g = set-le bound l i a j (λ k. h (suc k)) g

none-le : (bound n j : ℕ) → get_or (replicate n 0) j 0 ≤ bound
none-le bound zero j = zero-le
none-le bound (suc n) zero = zero-le
none-le bound (suc n) (suc j) = none-le bound n j

timed-more : (ts : Times) (i x n : ℕ) → Limited ts → n ≤ 86400 → Limited (with_time ts i x n)
unfolding with_time
timed-more ts i x n h l = record { some = h.some; par = h.par; seconds = λ j. set-le 86400 ts.seconds (pair_slot i x) n j h.seconds l }

timed-none : (par : ℕ) → par_ok par ≡ true → Limited (times_of par)
unfolding times_of
timed-none par e = record { some = leb-true 1 par (and_left (leb 1 par) _ e); par = leb-true par 1000000 (and_right (leb 1 par) _ e); seconds = none-le 86400 1024 }

runs-times : Runs Limited times
unfolding times time
runs-times =
    runs_then (runs-line (reads-due (bytes "times=") 1)) (λ _ _.
    runs_then (runs-line (reads-count-in seven_digits (bytes "par=") par_ok)) (λ par cp.
    runs_then (runs-line (reads-count-in seven_digits (bytes "rows=") rows_ok)) (λ n _.
    runs_then (runs-each time (λ _. Limited) n (λ j ts _ h. runs_then (runs-line (reads-time ts)) (λ (i, x, m) l. runs-give (timed-more ts i x m h l))) n 0 (times_of par) (omega arith) (timed-none par cp)) (λ ts h.
    runs_then runs-end (λ _ _. runs-give h)))))

pub times-are-limited : TimesAreLimited
unfolding TimesAreLimited
times-are-limited s r ts e = run-gives runs-times s ts r e

pub times-stop : (s : List ℕ) (n : ℕ) (r : List ℕ) → times s ≡ stop n r → StopsAt s n r
times-stop = run-stops runs-times
