-- "seconds (0 to 86,400)": so many for each step at most.
use Rattle.std.specs.Prelude.{ℕ, ◌*◌, ◌≤◌, length}
use Rattle.model.specs.declared.Tables.{Tables}
use Rattle.model.specs.declared.Program.{Program}
use Rattle.model.specs.declared.Answer.{Answer}
use Rattle.model.specs.declared.Configuration.{Configuration}
use Rattle.model.specs.View.{steps_of}
use Rattle.times_spec.specs.declared.Times.{Times}
use Rattle.times_spec.specs.Lawful.{Limited}
use Rattle.timing_spec.specs.Clock.{clock_of}

unfoldable pub ClockIsBounded : Type 0
ClockIsBounded =
    (default : ℕ) (t : Tables) (p : Program) (b : Configuration) (a : Answer) (ts : Times)
    → Limited ts
    → clock_of default t p b a ts ≤ 86400 * length (steps_of a)
