use Rattle.read_spec.specs.Kinds.{edition_line}
use Rattle.read_chain.proofs.Chain.{number-line}
use Rattle.read_chain.proofs.edition_run.Goals as goal

pub returns-clause-reads : goal.returns-clause-reads
returns-clause-reads c = (number-line edition_line c.args.text.now c.args.start _ c.edition_at-line.ensures c.number_run.ensures).0

pub returns-clause-few : goal.returns-clause-few
returns-clause-few c = (number-line edition_line c.args.text.now c.args.start _ c.edition_at-line.ensures c.number_run.ensures).1
