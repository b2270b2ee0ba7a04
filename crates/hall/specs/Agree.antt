-- What the screen says of what the readers give and of what a walk reaches: never 7, and the walk's own answer.
use Rattle.std.specs.Prelude.{ℕ, ◌≡◌, ◌≢◌, ◌↔◌, true, false, ◌&&◌, List}
use Rattle.model.specs.declared.Tables.{Tables}
use Rattle.model.specs.declared.Program.{Program}
use Rattle.model.specs.declared.Step.{Step}
use Rattle.model.specs.declared.Answer.{Answer}
use Rattle.model.specs.declared.Configuration.{Configuration}
use Rattle.model.specs.declared.Walked.{Walked}
use Rattle.model.specs.Empty.{start}
use Rattle.model.specs.View.{connection, steps_of}
use Rattle.read_spec.specs.Lines.{on}
use Rattle.read_spec.specs.Texts.{sheet, answer}
use Rattle.read_spec.specs.Lawful.{step_lawful}
use Rattle.rules_spec.specs.Proper.{Proper}
use Rattle.rules_spec.specs.Walk.{walk_by, walk_answer}
use Rattle.judge_spec.specs.Course.{default_depth}
use Rattle.hall_configuration.specs.Lawful.{configuration_lawful}
use Rattle.hall.specs.Screen.{limit_broken, lent_lawful, hall_step}

-- a screen's own walk: the steps one after the other on the one lent configuration, to the first that it refuses
unfoldable pub hall_walk : Tables → Program → Configuration → List Step → Walked
hall_walk t p c ss = walk_by (hall_step t p) c ss

-- a refusal leaves the configuration
unfoldable pub RefusedLeaves : Type 0
RefusedLeaves =
    (t : Tables) (p : Program) (c : Configuration) (s : Step) → (hall_step t p c s).refused ≢ 0 → (hall_step t p c s).configuration ≡ c

-- "is given exactly when": no rule of the steps has number 7
unfoldable pub SevenExactly : Type 0
SevenExactly =
    (t : Tables) (p : Program) (c : Configuration) (s : Step) → ((hall_step t p c s).refused ≡ limit_broken) ↔ (lent_lawful t p c s ≡ false)

-- "a use port already connected" is a clause that no lent table can break: two of its slots never speak of one use port
unfoldable pub NoUsePortTwice : Type 0
NoUsePortTwice =
    (c : Configuration) (s r : ℕ)
    → (connection c s).user ≡ (connection c r).user
    → (connection c s).useport ≡ (connection c r).useport
    → s ≡ r

-- for what the reader of a sheet gives that opens with `sheet=1`, 7 is for the step's or the configuration's sake
unfoldable pub SheetsBreakNone : Type 0
SheetsBreakNone =
    (x r : List ℕ) (t : Tables) (p : Program) (c : Configuration) (s : Step)
    → sheet x ≡ on (t, p) r
    → p.edition ≡ 1
    → lent_lawful t p c s ≡ (step_lawful s && configuration_lawful default_depth t p c)

-- what every point of a walk keeps is lawful to the screen
unfoldable pub ProperIsLawful : Type 0
ProperIsLawful = (t : Tables) (p : Program) (c : Configuration) → p.edition ≡ 1 → Proper default_depth t p c → configuration_lawful default_depth t p c ≡ true

-- the tables, program and steps that the readers give, stepped by the screen from the empty start: the walk's verdict, count and configuration
unfoldable pub HallWalksAlike : Type 0
HallWalksAlike =
    (x r y q : List ℕ) (t : Tables) (p : Program) (a : Answer)
    → sheet x ≡ on (t, p) r
    → answer y ≡ on a q
    → p.edition ≡ 1
    → hall_walk t p start (steps_of a) ≡ walk_answer default_depth t p a
