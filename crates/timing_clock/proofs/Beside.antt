-- A walk that has come to step i with the clock beside it: what is left of both.
-- Assumes nothing.
use mathlib.Core.Path.{◌≡◌, refl, sym, ◌∙◌}
use Prim.Native.Nat.{ℕ, ◌+◌, ◌*◌, ◌≤◌, ◌<◌, min}
use native.Mathlib.Omega.{arith}
use native.Mathlib.Numerals.{add-one}
use borrow.Author.Tests.{eq-eqb, ne_eqb}
use mathlib.Core.Logic.{◌≢◌}
use lib.ListN.{length, get_or, drop}
use Rattle.model.specs.declared.Tables.{Tables}
use Rattle.model.specs.declared.Program.{Program}
use Rattle.model.specs.declared.Answer.{Answer}
use Rattle.model.specs.declared.Configuration.{Configuration}
use Rattle.model.specs.declared.Stepped.{Stepped}
use Rattle.model.specs.declared.Concerned.TheVariants.{NoPort}
use Rattle.model.specs.Empty.{no_step}
use Rattle.model.specs.View.{steps_of}
use Rattle.rules_spec.specs.Walk.{beside_by}
use Rattle.step_walk.specs.Held.{held_step, held_walk}
use Rattle.step_walk.proofs.Ahead.{rest, walk_start, walk_more, walk_refused, walk_end, none_left, one_left}
use Rattle.times_spec.specs.declared.Times.{Times}
use Rattle.timing_spec.specs.Clock.{Clock, at_start, tick}
use Rattle.timing_spec.specs.Mark.{mark_of, mark_after}
use Rattle.timing_clock.specs.Paced.{most_seconds, Past, Paced}
use Rattle.timing_clock.specs.Once.{held_clock, Promised}
use Rattle.timing_clock.proofs.Pace.{start-past}

-- after i steps the clock has kept its pace, whatever the program
pub record Kept (i : ℕ) (k : Clock) : Type 0 where
  pub slow : k.now ≤ i * most_seconds
  pub past : Past k

pub kept-start : Kept 0 at_start
unfolding at_start
kept-start = record { slow = omega arith; past = start-past }

pub kept_more : {i : ℕ} {k l : Clock} → Kept i k → Paced most_seconds k l → Kept (i + 1) l
kept_more h g = record { slow = omega (arith, h.slow, g.slow); past = g.past }

module _ (default : ℕ) (t : Tables) (p : Program) (b : Configuration) (a : Answer) (ts : Times) where
  -- the walk has come to step i and to c, and the clock to k
  pub record Beside (i : ℕ) (c : Configuration) (k : Clock) : Type 0 where
    pub walk_is : held_walk default t p b (steps_of a) ≡ rest default t p a i c
    pub clock-is : (held_clock default t p ts b (steps_of a) at_start).now ≡ (held_clock default t p ts c (drop i (steps_of a)) k).now

  pub at-start : Beside 0 b at_start
  at-start = record { walk_is = walk_start default t p a b; clock-is = refl }

  module _ (full : length a.steps ≡ 1024) {i : ℕ} {c : Configuration} {k : Clock} (here : Beside i c k) where
    module _ (m : Stepped) (within : i < min a.count 1024) (is : m ≡ held_step default t p c (get_or a.steps i no_step)) where
      clock-more : m.refused ≡ 0
          → held_clock default t p ts c (drop i (steps_of a)) k
          ≡ held_clock default t p ts m.configuration (drop (i + 1) (steps_of a)) (tick ts c m.configuration (get_or a.steps i no_step) k)
      unfolding held_clock
      clock-more e = rw (one_left a full i within, beside_by, ← is, eq-eqb m.refused 0 e, ← is, add-one)

      pub one_further : m.refused ≡ 0 → (l : Clock) → l ≡ tick ts c m.configuration (get_or a.steps i no_step) k → Beside (i + 1) m.configuration l
      one_further e l ticked = record {
        walk_is = here.walk_is ∙ walk_more default t p a c full i m within is e;
        clock-is = here.clock-is ∙ rw (clock-more e, ← ticked);
      }

      pub at-refusal : m.refused ≢ 0
          → Promised default t p b a ts (record { passed = record { accepted = i; refused = m.refused; port = m.port }; mark = 0 }) m.configuration
      unfolding mark_after
      at-refusal d =
          let e = here.walk_is ∙ walk_refused default t p a c full i m within is d in
          record { walked-is = sym e; mark-is = rw (e, ne_eqb m.refused 0 d) }

    pub at-end : min a.count 1024 ≤ i
        → Promised default t p b a ts (record { passed = record { accepted = i; refused = 0; port = NoPort }; mark = mark_of ts.par k.now }) c
    unfolding mark_after held_clock
    at-end h =
        let e = here.walk_is ∙ walk_end default t p a c full i h in
        record { walked-is = sym e; mark-is = rw (e, here.clock-is, none_left a full i h) }
