use Rattle.write_items.proofs.Turns.{Turns}
use Rattle.aeolus_model.specs.Words.{universe_in, configuration_in}
use Rattle.aeolus_judge_spec.specs.Report.{bindings_at}
use Rattle.aeolus_write_report.proofs.write_requirers.Given as goal

abbrev pub invariant-loop-z : goal.invariant-loop-z
invariant-loop-z l = Turns (bindings_at (universe_in l.universe) (configuration_in l.deployed) l.r) 32 l.z l.initial.t l.t l.used
