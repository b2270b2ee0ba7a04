use Rattle.write_items.proofs.Turns.{Turns}
use Rattle.aeolus_model.specs.Words.{configuration_in}
use Rattle.aeolus_judge_spec.specs.Report.{component_at}
use Rattle.aeolus_write_report.proofs.write_component_lines.Given as goal

abbrev pub invariant-loop-z : goal.invariant-loop-z
invariant-loop-z l = Turns (component_at (configuration_in l.deployed)) 32 l.z l.initial.t l.t l.used
