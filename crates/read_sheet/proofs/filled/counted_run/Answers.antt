use native.Mathlib.Omega.{arith}
use lib.Dec.{leb}
use borrow.Author.Tests.{leb-true}
use Rattle.item_spec.proofs.Tests.{and_right}
use Rattle.read_sheet.proofs.filled.counted_run.Goals as goal

pub overflow_cast-result : goal.overflow_cast-result
overflow_cast-result c = omega (arith, leb-true c.args.count c.args.greatest (and_right (leb c.args.least c.args.count) (leb c.args.count c.args.greatest) c.if-least-count.true))

pub returns-then-least-count : goal.returns-then-least-count
returns-then-least-count c = rw c.if-least-count.true

pub returns : goal.returns
returns c = rw c.if-least-count.false
