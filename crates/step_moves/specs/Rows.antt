-- The checks that the moves share: the two that all four begin with, and the row of fire and enter; and what fire and enter answer.
use Rattle.std.specs.Prelude.{Bool, not, cond, ℕ, eqb}
use Rattle.model.specs.declared.Tables.{Tables}
use Rattle.model.specs.declared.Instance.{Instance}
use Rattle.model.specs.declared.Configuration.{Configuration}
use Rattle.model.specs.declared.Concerned.TheVariants.{NoPort}
use Rattle.rules_spec.specs.Action.{Action, concern}
use Rattle.rules_spec.specs.Fire.{fire_check}
use Rattle.rules_spec.specs.Enter.{enter_check}
use Rattle.rules_spec.specs.Standing.{standing}
use Rattle.step_ports.specs.declared.Answered.{Answered}
use Rattle.step_ports.specs.Turns.{answered}
use Rattle.rules_spec.specs.Refusal.{◌⇒◌∣◌, allowed, id_absent, queue_empty, no_transition, not_ready, held_or_marked}

abbrev pub firstly : Instance → ℕ → ℕ
firstly v rest = not v.present ⇒ id_absent ∣ eqb v.queued 0 ⇒ queue_empty ∣ rest

abbrev pub row : ℕ → Bool → Bool → ℕ
row xs ready taken = eqb xs 0 ⇒ no_transition ∣ not ready ⇒ not_ready ∣ taken ⇒ held_or_marked ∣ allowed

-- a number that is about no port, else what follows
abbrev pub asked : ℕ → Answered → Answered
asked n rest = cond (eqb n 0) rest (record { refused = n; port = NoPort })

-- the number of a fire and the use port it is about, and those of an enter
abbrev pub fire_answer : Tables → Configuration → ℕ → ℕ → Answered
fire_answer t c i p = answered (concern t (standing c) c (Action.fire i p)) (fire_check t (standing c) c i p)

abbrev pub enter_answer : Tables → Configuration → ℕ → ℕ → Answered
enter_answer t c i p = answered (concern t (standing c) c (Action.enter i p)) (enter_check t (standing c) c i p)
