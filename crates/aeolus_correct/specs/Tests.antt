-- What is counted among components, as values; each goes to its definition in aeolus_rules_spec/specs.
use Rattle.std.specs.Prelude.{Bool, ℕ}
use Rattle.aeolus_model.specs.Model.{Universe, Configuration}
use Rattle.aeolus_rules_spec.specs.Correct.{provides, employs}
use Rattle.aeolus_correct.specs.declared.Test.{Test}

unfoldable pub passes : Test → Universe → Configuration → ℕ → ℕ → ℕ → Bool
passes Test.Provides u c r z y = provides u c r z y
passes Test.Employs u c r z y = employs u c r z y
