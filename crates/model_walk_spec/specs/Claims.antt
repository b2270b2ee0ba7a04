-- "Prove that the judge allows all of it, and that a walk shorter than 1,024 ended only where no step at all is allowed."
-- From any start c, and whatever depth 0 stands for.
use Rattle.std.specs.Prelude.{◌≡◌, ◌≢◌, true, List, ◌∷◌, ◌++◌, ℕ, ◌<◌, ◌≤◌, length}
use Rattle.model.specs.declared.Tables.{Tables}
use Rattle.model.specs.declared.Program.{Program}
use Rattle.model.specs.declared.Step.{Step}
use Rattle.model.specs.declared.Configuration.{Configuration}
use Rattle.read_spec.specs.Lawful.{step_lawful}
use Rattle.rules_spec.specs.Step.{step_check}
use Rattle.rules_spec.specs.Walk.{walk}
use Rattle.write_spec.specs.Steps.{Every, SaidSteps}
use Rattle.model_walk_spec.specs.Order.{in_order}
use Rattle.model_walk_spec.specs.Walk.{model_steps, model_reached}

unfoldable pub AllAreAllowed : Type 0
AllAreAllowed =
    (default : ℕ) (t : Tables) (p : Program) (c : Configuration)
    → ((walk default t p c (model_steps default t p c)).refused ≡ 0) × ((walk default t p c (model_steps default t p c)).accepted ≡ length (model_steps default t p c))

-- no step that a line of an answer can say
unfoldable pub EndsWhereNoneIsAllowed : Type 0
EndsWhereNoneIsAllowed =
    (default : ℕ) (t : Tables) (p : Program) (c : Configuration) (s : Step)
    → length (model_steps default t p c) < 1024
    → step_lawful s ≡ true
    → step_check default t p (model_reached default t p c) s ≢ 0

-- lines of an answer say all of them, 1,024 at most
unfoldable pub StepsAreSaid : Type 0
StepsAreSaid = (default : ℕ) (t : Tables) (p : Program) (c : Configuration) → SaidSteps (model_steps default t p c)

-- "take at each turn the first allowed step in this order": of the order, what comes before the step taken is refused there, and the step is allowed
pub record FirstAllowed (default : ℕ) (t : Tables) (p : Program) (c : Configuration) (s : Step) : Type 0 where
  pub sooner : List Step
  pub later : List Step
  pub order : in_order ≡ sooner ++ s ∷ later
  pub refused : Every (λ m. step_check default t p c m ≢ 0) sooner
  pub allowed : step_check default t p c s ≡ 0

unfoldable pub EachIsTheFirstAllowed : Type 0
EachIsTheFirstAllowed =
    (default : ℕ) (t : Tables) (p : Program) (c : Configuration) (before : List Step) (s : Step) (after : List Step)
    → model_steps default t p c ≡ before ++ s ∷ after
    → FirstAllowed default t p (walk default t p c before).configuration s
