use mathlib.Core.Path.{◌≡◌, sym, ◌∙◌}
use native.Mathlib.Omega.{arith}
use lib.Dec.{leb}
use lib.ListN.{length}
use Rattle.write_items.proofs.Laws.{fits_all}
use borrow.Author.Tests.{leb-true}
use Rattle.judge_spec.specs.Judged.{no_room, after_walk, in_room, over}
use Rattle.words.specs.Words.{state_in}
use Rattle.step_walk.specs.Reached.{walked}
use Rattle.judge_verdicts.proofs.InRoom.{fits-place, size-verdict}
use Rattle.judge_lib.specs.Came.{report_in}
use Rattle.judge_lib.proofs.Room.{fits_told}
use borrow.Author.Rules.{rules}
use Rattle.judge_lib.proofs.judge_walk.Statement.{statement}
use Rattle.judge_lib.proofs.judge_walk.Tie as tie

-- whether the report has room
told : (h : tie.After-has_room-fits)
    → let x = h.args in
    h.has_room-fits.result ≡ leb (length (report_in x.w x.state.now)) (length x.lent.now)
told h =
    let start = h in
    fits_told (report_in start.args.w start.args.state.now) _ _ h.has_room-fits.ensures (omega arith) start.requires.few

returns : tie.Need-returns-then-not-fits
unfolding in_room no_room over
returns c =
    let d = c in
    let h = c in
    let x = c.args in
    let ws = x.state.now in
    let e = sym (told c.before.before.before.before.before) ∙ c.if-not-fits.true in
    (rw (e, in_room) c.no_room-verdict.ensures, (fits-place (walked x.w (state_in ws)) (report_in x.w ws) _ _ d.walk_place-place.ensures (told c.before.before.before.before.before), rw (e, in_room)))

returns-2 : tie.Need-returns
unfolding in_room after_walk over
returns-2 c =
    let written = c in
    let left = c in
    let d = c in
    let h = c in
    let x = c.args in
    let ws = x.state.now in
    let w = walked x.w (state_in ws) in
    let e = sym (told c.before.before.before.before.before.before.before.before.before.before) ∙ left.if-not-fits.false in
    let whole = fits_all written.write_report-written.ensures (leb-true _ _ e) in
    (rw (e, in_room) (size-verdict w (report_in x.w ws) x.answer.now (c.walk_verdict-verdict.ensures (state_in ws) c.done.ensures) whole.0), (fits-place w (report_in x.w ws) _ _ d.walk_place-place.ensures (told c.before.before.before.before.before.before.before.before.before.before), rw (e, in_room) whole.1))

pub judge_walk_spec : {M : Type 1} → statement M
judge_walk_spec =
    tie.close
    (tie.spec
    (λ c κs. search rules) (λ c. search rules) (λ c. search rules) (λ c κs. search rules) (λ c κs. search rules) returns (λ c κs. search rules)
    (λ c κs. search rules) (λ c. search rules) (λ c κs. search rules) (λ c. search rules) returns-2)
