-- "A clock starts at 0. A `fire` notes the clock for each transition it starts. An `end` sets the clock to the later of the clock and the
-- noted time plus the seconds." A fold over the allowed steps, beside the walk.
use Rattle.std.specs.Prelude.{ℕ, zero, suc, ◌+◌, max, cond, List, eqb, get_or, set, replicate}
use Rattle.sets.specs.Mask.{member, without}
use Rattle.model.specs.declared.Tables.{Tables}
use Rattle.model.specs.declared.Program.{Program}
use Rattle.model.specs.declared.Step.{Step}
use Rattle.model.specs.declared.Answer.{Answer}
use Rattle.model.specs.declared.Configuration.{Configuration}
use Rattle.model.specs.Verb.{fire_verb, end_verb}
use Rattle.model.specs.View.{instance, steps_of}
use Rattle.rules_spec.specs.Step.{step}
use Rattle.rules_spec.specs.Walk.{beside_by}
use Rattle.times_spec.specs.declared.Times.{Times}
use Rattle.times_spec.specs.View.{pair_slot, seconds_of}

-- the clock, and the time noted for each pair of id and transition
pub record Clock : Type 0 where
  pub now : ℕ
  pub noted : List ℕ

unfoldable pub at_start : Clock
at_start = record { now = 0; noted = replicate 1024 0 }

-- the transitions that component i starts in the step from c to d: those that run after it and did not before
abbrev pub started : Configuration → Configuration → ℕ → ℕ
started c d i = without (instance d i).running (instance c i).running

-- the time now, noted for the transitions of xs that are below n, of component i
unfoldable pub notes : ℕ → ℕ → ℕ → ℕ → List ℕ → List ℕ
notes now i xs zero noted = noted
notes now i xs (suc n) noted = cond (member n xs) (set (notes now i xs n noted) (pair_slot i n) now) (notes now i xs n noted)

-- an allowed step s from c to d; `shown` is what a clock shows of a time that an `end` comes to
abbrev pub tick_by : (ℕ → ℕ) → Times → Configuration → Configuration → Step → Clock → Clock
tick_by shown ts c d s k =
    cond (eqb s.verb fire_verb) (record { now = k.now; noted = notes k.now s.id (started c d s.id) 32 k.noted })
    (cond (eqb s.verb end_verb) (record {
      now = shown (max k.now (get_or k.noted (pair_slot s.id s.number) 0 + seconds_of ts s.id s.number));
      noted = k.noted;
    })
    k)

-- the time itself
unfoldable pub tick : Times → Configuration → Configuration → Step → Clock → Clock
tick ts c d s k = tick_by (λ n. n) ts c d s k

unfoldable pub clock_from : ℕ → Tables → Program → Times → Configuration → List Step → Clock → Clock
clock_from default t p ts c ss k = beside_by (step default t p) (tick ts) c ss k

-- the clock after an answer's walk from c: "what runs at the start was noted at 0"
unfoldable pub clock_of : ℕ → Tables → Program → Configuration → Answer → Times → ℕ
clock_of default t p c a ts = (clock_from default t p ts c (steps_of a) at_start).now
