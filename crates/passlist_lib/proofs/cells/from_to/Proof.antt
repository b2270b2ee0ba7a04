use native.Mathlib.Omega.{arith}
use borrow.Author.Tests.{lt-leb, le-leb}
use Rattle.passlist_lib.proofs.cells.from_to.Statement.{statement}
use Rattle.passlist_lib.proofs.cells.from_to.Tie as tie

returns : tie.Need-returns-then-c-low
returns c = rw (lt-leb c.args.low c.args.c (omega arith))

returns-2 : tie.Need-returns
returns-2 c = rw (le-leb c.args.low c.args.c (omega arith))

pub from_to_spec : {M : Type 1} → statement M
from_to_spec =
    tie.close
    (tie.spec
    returns returns-2)
