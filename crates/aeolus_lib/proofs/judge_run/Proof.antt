use mathlib.Core.Path.{sym, ◌∙◌}
use Rattle.write_items.proofs.Laws.{fits_all}
use borrow.Author.Tests.{leb-true}
use Rattle.judge_spec.specs.Judged.{over}
use Rattle.aeolus_model.specs.Words.{universe_in, configuration_in}
use Rattle.aeolus_write_report.specs.Ran.{ran}
use Rattle.aeolus_judge_spec.specs.Report.{report}
use Rattle.aeolus_judge_spec.specs.Judged.{no_room, after_run, in_room}
use borrow.Author.Rules.{rules}
use Rattle.aeolus_lib.proofs.judge_run.Statement.{statement}
use Rattle.aeolus_lib.proofs.judge_run.Tie as tie

returns : tie.Need-returns-then-not-fits
unfolding in_room no_room over
returns c =
    let x = c.args in
    let w = ran x.passed (configuration_in x.deployed.now) in
    let r = report (universe_in x.universe.now) w in
    let d = c in
    let fits = c.has_room-fits in
    let e = sym fits.ensures ∙ c.if-not-fits.true in
    record { verdict-is = rw (e, in_room) c.no_room-verdict.ensures; place_is = d.run_place-place.ensures w.configuration r _ fits.ensures; buffer-is = rw (e, in_room) }

returns-2 : tie.Need-returns
unfolding in_room after_run over
returns-2 c =
    let x = c.args in
    let w = ran x.passed (configuration_in x.deployed.now) in
    let r = report (universe_in x.universe.now) w in
    let left = c in
    let d = c in
    let fits = c.has_room-fits in
    let e = sym fits.ensures ∙ left.if-not-fits.false in
    let whole = fits_all c.write_report-written.ensures (leb-true _ _ e) in
    record { verdict-is = rw (e, in_room) (c.run_verdict-verdict.ensures w.configuration r x.answer.now whole.0); place_is = d.run_place-place.ensures w.configuration r _ fits.ensures; buffer-is = rw (e, in_room) whole.1 }

pub judge_run_spec : {M : Type 1} → statement M
judge_run_spec = tie.close (tie.spec
    (λ c κs. search rules) (λ c κs. search rules) (λ c κs. search rules) returns (λ c κs. search rules) (λ c κs. search rules) (λ c. search rules)
    returns-2)
