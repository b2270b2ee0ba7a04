-- The two checks of a setter agree: where names foretell a refusal, the model walk is not done.
use Rattle.std.specs.Prelude.{◌≡◌, ◌≢◌, ℕ}
use Rattle.model.specs.declared.Tables.{Tables}
use Rattle.model.specs.declared.Program.{Program}
use Rattle.model.specs.declared.Configuration.{Configuration}
use Rattle.foretell_spec.specs.Names.{foretold}
use Rattle.foretell_spec.specs.Foretold.{Starts}
use Rattle.model_walk_spec.specs.declared.Ending.TheVariants.{Done}
use Rattle.model_walk_spec.specs.Walk.{model_ending}

unfoldable pub ForetoldIsNotDone : Type 0
ForetoldIsNotDone = (default : ℕ) (t : Tables) (p : Program) (c : Configuration) → Starts c → (foretold t p c).refused ≢ 0 → model_ending default t p c ≢ Done
