use Prim.Native.Nat.{ℕ, ◌+◌}
use mathlib.Core.Path.{◌≡◌, ap, ◌∙◌}
use native.Mathlib.Omega.{arith}
use lib.ListN.{length, length-append}
use Rattle.timing_spec.specs.Timed.{marked_report}
use Rattle.judge_lib.specs.Came.{report_in}
use Rattle.judge_lib.specs.Room.{room_for}
use Rattle.timing_lib.specs.Came.{marked_in}
use borrow.Author.Rules.{rules}
use Rattle.timing_lib.proofs.has_room.Statement.{statement}
use Rattle.timing_lib.proofs.has_room.Tie as tie

returns : tie.Need-returns
unfolding marked_report
returns c =
    let mark = c in
    let x = c.args in
    let e : length (report_in x.w.passed x.state.now) + mark.mark_length.result ≡ length (marked_in x.w x.state.now) = simp length-append (omega (arith, mark.mark_length.ensures)) in
    c.has_room.ensures ∙ ap (λ (n : ℕ). room_for n x.room) e

pub has_room_spec : {M : Type 1} → statement M
has_room_spec = tie.close (tie.spec
    (λ c κs. search rules) (λ c κs. search rules) returns)
