use mathlib.Core.Path.{sym, ◌∙◌}
use Rattle.aeolus_judge_spec.specs.Judged.{no_room, after_run, in_room}
use borrow.Author.Rules.{rules}
use Rattle.aeolus_lib.proofs.run_place.Statement.{statement}
use Rattle.aeolus_lib.proofs.run_place.Tie as tie

returns : tie.Need-returns-then-not-fits
unfolding in_room no_room
returns c = λ d x room e. rw (sym e ∙ c.if-not-fits.true, in_room)

returns-2 : tie.Need-returns
unfolding in_room after_run
returns-2 c = λ d x room e. rw (sym e ∙ c.if-not-fits.false, in_room, ← c.at_step.ensures) c.step_place.ensures

pub run_place_spec : {M : Type 1} → statement M
run_place_spec = tie.close (tie.spec
    returns (λ c κs. search rules) (λ c. search rules) (λ c κs. search rules) returns-2)
