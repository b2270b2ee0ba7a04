use Rattle.item_spec.specs.Reader.{bytes}
use Rattle.read_items.specs.Within.{numbers_within}
use Rattle.read_items.specs.declared.numbers.Limits.TheVariants as limits
use Rattle.read_items.proofs.Shapes.{key-fault, key-then}
use Rattle.read_start.proofs.JoinLines.{small-join}
use Rattle.read_start.proofs.joins.form_line.Goals as goal

pub returns-in_default-clause-reads : goal.returns-in_default-clause-reads
returns-in_default-clause-reads c = key-fault (bytes "connection=") (numbers_within 5 (limits.Four 32 16 32 16)) c.in_default.ensures

pub returns-clause-reads : goal.returns-clause-reads
returns-clause-reads c = key-then (bytes "connection=") (numbers_within 5 (limits.Four 32 16 32 16)) c.in-Some.ensures c.numbers_within.ensures

pub returns-clause-small : goal.returns-clause-small
returns-clause-small c = small-join _ c.numbers_within.result c.numbers_within.ensures
