use mathlib.Core.Path.{sym}
use native.Mathlib.Omega.{arith}
use Rattle.passlist_lib.proofs.Laws.{end-here, end-not}
use Rattle.passlist_lib.proofs.cells.past_end.Goals as goal

pub returns-then-at-row : goal.returns-then-at-row
returns-then-at-row c = record { within = omega arith; same = sym (end-not c.args.row.now c.args.at c.if-at-row.true) }

pub returns : goal.returns
returns c = record { within = omega arith; same = sym (end-here c.args.row.now c.args.at c.if-at-row.false) }
