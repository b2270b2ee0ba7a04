use mathlib.Core.Path.{◌≡◌, refl, sym, ◌∙◌}
use lib.Dec.{leb}
use lib.ListN.{length}
use borrow.Author.Tests.{leb-true}
use Rattle.write_items.proofs.Laws.{fits_all}
use Rattle.judge_spec.specs.Judged.{no_room, after_walk, in_room, over}
use Rattle.words.specs.Words.{state_in}
use Rattle.step_walk.specs.Reached.{walked}
use Rattle.judge_verdicts.proofs.InRoom.{size-verdict}
use Rattle.judge_lib.proofs.Room.{fits_told}
use Rattle.timing_spec.specs.Timed.{mark_in_room}
use Rattle.timing_lib.specs.Came.{marked_in}
use borrow.Author.Rules.{rules}
use Rattle.timing_lib.proofs.after_walk.Statement.{statement}
use Rattle.timing_lib.proofs.after_walk.Tie as tie

-- whether the report with its mark has room
told : (h : tie.After-has_room)
    → let x = h.args in
    h.has_room.result ≡ leb (length (marked_in x.w x.state.now)) (length x.lent.now)
told h =
    let start = h in
    fits_told (marked_in start.args.w start.args.state.now) _ _ h.has_room.ensures refl start.requires.few

returns : tie.Need-returns-then-not-has_room
unfolding in_room no_room over mark_in_room
returns c =
    let d = c in
    let h = c in
    let e = sym (told c.before.before.before) ∙ d.if-not-has_room.true in
    (λ a. rw (e, in_room, c.unmarked.ensures) c.no_room-verdict.ensures, (rw (e, mark_in_room, c.unmarked.ensures), λ a. rw (e, in_room)))

returns-2 : tie.Need-returns
unfolding in_room after_walk over mark_in_room
returns-2 c =
    let written = c in
    let d = c in
    let h = c in
    let x = c.args in
    let ws = x.state.now in
    let e = sym (told c.before.before.before.before.before.before.before.before.before.before) ∙ d.if-not-has_room.false in
    let whole = fits_all written.write_marked-written.ensures (leb-true _ _ e) in
    let is = c.walk_verdict-verdict.ensures (state_in ws) c.done.ensures in
    (λ a. rw (e, in_room) (size-verdict (walked x.w.passed (state_in ws)) (marked_in x.w ws) a is whole.0), (rw (e, mark_in_room), λ a. rw (e, in_room) whole.1))

pub after_walk_spec : {M : Type 1} → statement M
after_walk_spec =
    tie.close
    (tie.spec
    (λ c κs. search rules) (λ c κs. search rules) (λ c κs. search rules) returns (λ c κs. search rules) (λ c. search rules) (λ c. search rules)
    (λ c κs. search rules) (λ c. search rules) (λ c κs. search rules) (λ c. search rules) returns-2)
