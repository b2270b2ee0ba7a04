-- "the refused step changes nothing, and the report shows the state before it".
use Rattle.std.specs.Prelude.{◌≡◌, ◌≢◌, List, ℕ, take}
use Rattle.model.specs.declared.Tables.{Tables}
use Rattle.model.specs.declared.Program.{Program}
use Rattle.model.specs.declared.Step.{Step}
use Rattle.model.specs.declared.Configuration.{Configuration}
use Rattle.model.specs.declared.Concerned.TheVariants.{NoPort}
use Rattle.rules_spec.specs.Step.{step}
use Rattle.rules_spec.specs.Walk.{walk}

unfoldable pub RefusedChangesNothing : Type 0
RefusedChangesNothing =
    (default : ℕ) (t : Tables) (p : Program) (c : Configuration) (s : Step)
    → (step default t p c s).refused ≢ 0
    → (step default t p c s).configuration ≡ c

-- the accepted steps alone are all allowed, as many, and reach the same configuration
unfoldable pub WalkIsItsAcceptedPart : Type 0
WalkIsItsAcceptedPart =
    (default : ℕ) (t : Tables) (p : Program) (c : Configuration) (ss : List Step)
    → walk default t p c (take (walk default t p c ss).accepted ss)
    ≡ record { accepted = (walk default t p c ss).accepted; refused = 0; port = NoPort; configuration = (walk default t p c ss).configuration }
