use Rattle.times_spec.specs.View.{times_of}
use Rattle.read_times.proofs.Laws.{times-got, times-refused}
use Rattle.read_times.proofs.read_times.Goals as goal

pub returns-in-Ok : goal.returns-in-Ok
returns-in-Ok c = times-got _ c.in-Ok.ensures

pub returns-in-Err : goal.returns-in-Err
unfolding times_of
returns-in-Err c = rw c.from.ensures (times-refused _ c.in-Err.ensures)
