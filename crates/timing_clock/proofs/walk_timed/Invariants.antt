-- Before each step the walk has come to the step's number, with the clock beside it.
use Rattle.std.proofs.Common.{◌≡◌, List, ℕ, length}
use Rattle.judge_spec.specs.Course.{default_depth}
use Rattle.words.specs.Words.{tables_in, program_from, answer_in, state_in}
use Rattle.timing_clock.specs.Once.{times_in}
use Rattle.timing_clock.specs.Paced.{clock_at}
use Rattle.timing_clock.proofs.Beside.{Kept, Beside}
use Rattle.timing_clock.proofs.walk_timed.Given as goal

abbrev pub invariant-loop-k : goal.invariant-loop-k
invariant-loop-k l =
    (length l.noted ≡ 1024) × Kept l.k (clock_at l.clock l.noted)
    × ((listed : List ℕ)
    → Beside default_depth (tables_in l.tables) (program_from l.program l.begun) (state_in l.initial.state) (answer_in l.answer) (times_in l.par listed l.seconds) l.k (state_in l.state) (clock_at l.clock l.noted))
