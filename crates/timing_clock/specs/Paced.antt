-- The clock as the code holds it, and how far one step can take it: what keeps the sums within the machine's numbers.
use Rattle.std.specs.Prelude.{ℕ, ◌+◌, ◌*◌, ◌≤◌, List, [], ◌≡◌, get_or}
use Rattle.model.specs.declared.Configuration.{Configuration}
use Rattle.model.specs.declared.Step.{Step}
use Rattle.times_spec.specs.declared.Times.{Times}
use Rattle.timing_spec.specs.Clock.{Clock, tick}

abbrev pub clock_at : ℕ → List ℕ → Clock
clock_at clock noted = record { now = clock; noted = noted }

-- the clock looks at the seconds alone
abbrev pub of_seconds : List ℕ → Times
of_seconds seconds = record { par = 0; listed = []; seconds = seconds }

-- the most seconds that a slot can hold, and the clock after 1,024 steps of them
abbrev pub most_seconds : ℕ
most_seconds = 4294967295

abbrev pub longest : ℕ
longest = 1024 * most_seconds

-- no noted time is past the clock
abbrev pub Past : Clock → Type 0
Past k = (j : ℕ) → get_or k.noted j 0 ≤ k.now

pub record InTime (k : Clock) : Type 0 where
  pub small : k.now ≤ longest
  pub past : Past k

-- from k the clock goes to l: at most b seconds later, and again no noted time is past it
pub record Paced (b : ℕ) (k l : Clock) : Type 0 where
  pub slow : l.now ≤ k.now + b
  pub past : Past l

-- from k the clock goes to l in an allowed step s from c to d
pub record Ticks (seconds : List ℕ) (c d : Configuration) (s : Step) (k l : Clock) : Type 0 where
  pub value : l ≡ tick (of_seconds seconds) c d s k
  pub pace : Paced most_seconds k l
