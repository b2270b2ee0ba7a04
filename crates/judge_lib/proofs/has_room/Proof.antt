use native.Mathlib.Omega.{arith}
use lib.ListN.{length}
use borrow.Author.Rules.{rules}
use Rattle.judge_lib.specs.Came.{report_in}
use Rattle.judge_lib.proofs.Room.{has_all, has-none, has_some}
use Rattle.judge_lib.proofs.has_room.Statement.{statement}
use Rattle.judge_lib.proofs.has_room.Tie as tie

returns : tie.Need-returns-then-room-ge-LENT_BYTES
returns c = let x = c.args in has_all (length (report_in x.w x.state.now)) x.after x.room c.if-room-ge-LENT_BYTES.true

returns-2 : tie.Need-returns-then-room-after
returns-2 c =
    let x = c.args in
    has-none (length (report_in x.w x.state.now)) x.after x.room c.if-room-ge-LENT_BYTES.false c.if-room-after.true

returns-3 : tie.Need-returns
returns-3 c =
    let w = c in
    let t = c in
    let x = c.args in
    has_some (length (report_in x.w x.state.now)) x.after x.room t.if-room-ge-LENT_BYTES.false t.if-room-after.false (omega (arith, w.write_report.ensures.to_is))

pub has_room_spec : {M : Type 1} → statement M
has_room_spec = tie.close (tie.spec
    returns returns-2 (λ c. search rules) (λ c κs. search rules) returns-3)
