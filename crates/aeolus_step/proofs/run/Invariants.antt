use mathlib.Core.Path.{◌≡◌}
use Rattle.aeolus_model.specs.Action.{actions_of}
use Rattle.aeolus_model.specs.Words.{universe_in, plan_in, configuration_in}
use Rattle.aeolus_rules_spec.specs.Run.{run}
use Rattle.aeolus_step.proofs.Ahead.{rest}
use Rattle.aeolus_step.proofs.run.Given as goal

-- what is left of the run from step k on
abbrev pub invariant-loop-k : goal.invariant-loop-k
invariant-loop-k l =
    run (universe_in l.universe) (configuration_in l.initial.deployed) (actions_of (plan_in l.plan)) ≡ rest (universe_in l.universe) (plan_in l.plan) l.k (configuration_in l.deployed)
