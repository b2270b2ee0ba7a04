-- "After 60 to 69 the refused action changes nothing, and the report shows the configuration before it".
use Rattle.std.specs.Prelude.{List, ◌≡◌, ◌≢◌, take}
use Rattle.aeolus_model.specs.Model.{Universe, Configuration}
use Rattle.aeolus_model.specs.Action.{Action}
use Rattle.aeolus_rules_spec.specs.Action.{act}
use Rattle.aeolus_rules_spec.specs.Run.{run, last_check}

unfoldable pub RefusedChangesNothing : Type 0
RefusedChangesNothing = (u : Universe) (c : Configuration) (a : Action) → (act u c a).refused ≢ 0 → (act u c a).configuration ≡ c

-- the accepted actions alone are all allowed, as many, and reach the same configuration
unfoldable pub RunIsItsAcceptedPart : Type 0
RunIsItsAcceptedPart =
    (u : Universe) (c : Configuration) (acts : List Action)
    → run u c (take (run u c acts).accepted acts)
    ≡ record { accepted = (run u c acts).accepted; refused = last_check u (run u c acts).configuration; configuration = (run u c acts).configuration }
