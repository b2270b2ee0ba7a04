use Rattle.read_spec.specs.Kinds.{count_line}
use Rattle.read_lines.specs.Counts.{limit_ok}
use Rattle.read_chain.proofs.Chain.{number-line}
use Rattle.read_chain.proofs.count_run.Goals as goal

pub returns-clause-reads : goal.returns-clause-reads
returns-clause-reads c = (number-line (count_line c.args.key.now (limit_ok c.args.limit)) c.args.text.now c.args.start _ c.count_at-line.ensures c.number_run.ensures).0

pub returns-clause-few : goal.returns-clause-few
returns-clause-few c = (number-line (count_line c.args.key.now (limit_ok c.args.limit)) c.args.text.now c.args.start _ c.count_at-line.ensures c.number_run.ensures).1
