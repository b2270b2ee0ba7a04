use mathlib.Core.Path.{sym}
use native.Mathlib.Omega.{arith}
use lib.ListN.{length}
use borrow.Author.Tests.{le-leb}
use Rattle.aeolus_judge_spec.specs.Report.{report}
use Rattle.aeolus_model.specs.Words.{universe_in, configuration_in}
use Rattle.aeolus_write_report.specs.Ran.{ran}
use borrow.Author.Rules.{rules}
use Rattle.aeolus_lib.proofs.has_room.Statement.{statement}
use Rattle.aeolus_lib.proofs.has_room.Tie as tie

returns : tie.Need-returns-then-room-ge-LARGEST
returns c = let x = c.args in sym (le-leb (length (report (universe_in x.universe.now) (ran x.passed (configuration_in x.deployed.now)))) x.room (omega arith))

returns-2 : tie.Need-returns
returns-2 c = rw c.report_length.ensures

pub has_room_spec : {M : Type 1} → statement M
has_room_spec = tie.close (tie.spec
    returns (λ c κs. search rules) returns-2)
