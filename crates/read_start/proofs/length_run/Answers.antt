use Rattle.read_start.proofs.Laws.{start-long, start_fits}
use Rattle.read_start.proofs.length_run.Goals as goal

pub returns-then-long : goal.returns-then-long
returns-then-long c = start-long c.args.text.now c.if-long.true

pub returns : goal.returns
returns c = start_fits c.args.text.now c.if-long.false
