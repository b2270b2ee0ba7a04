use Rattle.read_lines.proofs.Runs.{Upto}
use Rattle.start_spec.specs.Text.{instance_at}
use Rattle.words.specs.Words.{tables_in, begun_in, state_in}
use Rattle.read_start.specs.Start.{queue_room}
use Rattle.read_start.proofs.read_instances.Given as goal

abbrev pub invariant-loop : goal.invariant-loop
invariant-loop l =
    Upto (instance_at l.setting.edition (queue_room l.setting.default (tables_in l.tables)) (tables_in l.tables)) l.count 0
    (state_in l.initial.state, 0, (begun_in l.initial.begun).last) l.text l.start l.counter l.stood.at (state_in l.state, l.stood.least, (begun_in l.begun).last)
