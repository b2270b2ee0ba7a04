-- The first instances by their names, the others as they were.
use Rattle.std.specs.Prelude.{ℕ, zero, suc}
use Rattle.model.specs.declared.Configuration.{Configuration}
use Rattle.model.specs.View.{instance, put}
use Rattle.foretell_spec.specs.Names.{quiet}

unfoldable pub quiet_below : ℕ → Configuration → Configuration
quiet_below zero c = c
quiet_below (suc i) c = put (quiet_below i c) i (quiet (instance (quiet_below i c) i))
