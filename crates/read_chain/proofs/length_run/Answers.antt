use Rattle.read_chain.proofs.Chain.{short-long, short-fits}
use Rattle.read_chain.proofs.length_run.Goals as goal

pub returns-then-long : goal.returns-then-long
returns-then-long c = short-long c.args.text.now c.if-long.true

pub returns : goal.returns
returns c = short-fits c.args.text.now c.if-long.false
