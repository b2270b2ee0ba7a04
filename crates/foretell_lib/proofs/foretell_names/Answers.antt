use Rattle.std.proofs.Common.{◌≡◌, ◌-◌, ◌+◌, refl, sym, ap, ◌∙◌}
use native.Mathlib.Nat.{sub-zero}
use Rattle.model.specs.declared.Stepped.{Stepped}
use Rattle.words.specs.Words.{tables_in, state_in, program_from}
use Rattle.step_walk.specs.Fits.{PortsFit}
use Rattle.step_walk.specs.Reached.{stepped}
use Rattle.step_walk.specs.Held.{HeldStepIsTheStep}
use Rattle.step_walk.proofs.Held.{held-step-is-the-step}
use Rattle.rules_spec.specs.Step.{step}
use Rattle.foretell_spec.specs.Names.{next_step, room_for_one, foretold_from}
use Rattle.foretell_lib.proofs.Onward.{goes_on, stops-here, ends-here}
use Rattle.foretell_lib.proofs.foretell_names.Goals as goal
use Rattle.foretell_lib.proofs.foretell_names.Goals.{After-step-answered}

pub loop-init : goal.loop-init
loop-init c = λ fits. rw (c.instructions-n.ensures, sub-zero) refl

-- what the turn of the loop came to: the rules' own step
abbrev came : After-step-answered → Stepped
came s = stepped s.step-answered.result (state_in s.step-answered.new.state)

due : (s : After-step-answered)
    → let a = s.args in
    PortsFit (program_from a.program.now a.begun.now) → came s ≡ step room_for_one (tables_in a.tables.now) (program_from a.program.now a.begun.now) (state_in s.loop.state) next_step
unfolding HeldStepIsTheStep
due s fits = s.step-answered.ensures ∙ held-step-is-the-step room_for_one _ _ _ next_step fits

pub returns-then-answered-ne0 : goal.returns-then-answered-ne0
returns-then-answered-ne0 c = λ fits.
    let s = (goal.at.returns-then-answered-ne0 c).After-step-answered in
    let a = c.args in
    rw c.done.ensures (sym (c.loop.invariant fits
    ∙ stops-here (tables_in a.tables.now) (program_from a.program.now a.begun.now) (state_in c.loop.state) (came s) (due s fits) c.instructions-n.result c.loop.counter c.loop-test.true c.if-answered-ne0.true))

pub loop-preserved : goal.loop-preserved
loop-preserved c = λ fits.
    let s = (goal.at.loop-preserved c).After-step-answered in
    let t = tables_in c.args.tables.now in
    let p = program_from c.args.program.now c.args.begun.now in
    c.loop.invariant fits
    ∙ goes_on t p (state_in c.loop.state) (came s) (due s fits) c.instructions-n.result c.loop.counter c.loop-test.true c.if-answered-ne0.false
    ∙ ap (foretold_from t p (c.instructions-n.result - (c.loop.counter + 1))) (sym c.keep_names.ensures)

pub returns : goal.returns
returns c = λ fits.
    let a = c.args in
    rw c.done-2.ensures (sym (c.loop.invariant fits
    ∙ ends-here (tables_in a.tables.now) (program_from a.program.now a.begun.now) (state_in c.loop.state) c.instructions-n.result c.loop.counter c.loop-test.false))
