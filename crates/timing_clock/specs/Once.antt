-- What the one public function promises, and that no other outcome fits it.
use Rattle.std.specs.Prelude.{◌≡◌, List, ℕ, ◌<◌, ◌^◌, length}
use Rattle.model.specs.declared.Tables.{Tables}
use Rattle.model.specs.declared.Program.{Program}
use Rattle.model.specs.declared.Answer.{Answer}
use Rattle.model.specs.declared.Configuration.{Configuration}
use Rattle.model.specs.declared.Step.{Step}
use Rattle.model.specs.View.{steps_of}
use Rattle.rules_spec.specs.Walk.{beside_by, walk_from}
use Rattle.times_spec.specs.declared.Times.{Times}
use Rattle.timing_spec.specs.Clock.{Clock, at_start, tick, clock_of}
use Rattle.timing_spec.specs.Mark.{mark_after}
use Rattle.words.specs.Rows.{word}
use Rattle.words.specs.Words.{state_in}
use Rattle.step_walk.specs.Reached.{walked}
use Rattle.step_walk.specs.Fits.{PortsFit}
use Rattle.step_walk.specs.Held.{held_step, held_walk}
use Rattle.timing_clock.specs.declared.TimedWalk.{TimedWalk}

-- times with this par, these pairs listed and these seconds
abbrev pub times_in : ℕ → List ℕ → List ℕ → Times
times_in par listed seconds = record { par = par; listed = listed; seconds = seconds }

-- the clock beside a walk in words (step_walk's Held)
unfoldable pub held_clock : ℕ → Tables → Program → Times → Configuration → List Step → Clock → Clock
held_clock default t p ts c ss k = beside_by (held_step default t p) (tick ts) c ss k

-- what the timed walk promises, of every program: the walk in words from b, and its mark
pub record Promised (default : ℕ) (t : Tables) (p : Program) (b : Configuration) (a : Answer) (ts : Times) (r : TimedWalk) (c : Configuration) : Type 0 where
  pub walked-is : walked r.passed c ≡ held_walk default t p b (steps_of a)
  pub mark-is : r.mark ≡ mark_after (held_walk default t p b (steps_of a)).refused ts.par (held_clock default t p ts b (steps_of a) at_start).now

-- where the numbers are words that is the walk of the rules, and its mark
unfoldable pub TimedAsRuled : Type 0
TimedAsRuled =
    (default : ℕ) (t : Tables) (p : Program) (b : Configuration) (a : Answer) (ts : Times) (r : TimedWalk) (c : Configuration)
    → PortsFit p
    → Promised default t p b a ts r c
    → (walked r.passed c ≡ walk_from default t p b a) × (r.mark ≡ mark_after (walk_from default t p b a).refused ts.par (clock_of default t p b a ts))

-- and no other words of the state: so many, each of 32 bits
unfoldable pub NoOtherTimedWalk : Type 0
NoOtherTimedWalk =
    (default : ℕ) (t : Tables) (p : Program) (b : Configuration) (a : Answer) (ts : Times) (r q : TimedWalk) (ws vs : List ℕ)
    → (length ws ≡ 930) × (word ws 0 < 2 ^ 32)
    → (length vs ≡ 930) × (word vs 0 < 2 ^ 32)
    → Promised default t p b a ts r (state_in ws)
    → Promised default t p b a ts q (state_in vs)
    → (r ≡ q) × (ws ≡ vs)
