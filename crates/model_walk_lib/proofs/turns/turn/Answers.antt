use Rattle.std.proofs.Common.{◌≡◌, refl, ap, arith, ◌∙◌}
use Rattle.model.specs.declared.Stepped.{Stepped}
use Rattle.model.specs.declared.Configuration.{Configuration}
use Rattle.rules_spec.specs.Step.{step}
use Rattle.words.specs.Words.{tables_in, state_in, program_from}
use Rattle.step_walk.specs.Fits.{PortsFit}
use Rattle.step_walk.specs.Reached.{stepped}
use Rattle.step_walk.specs.Held.{HeldStepIsTheStep}
use Rattle.step_walk.proofs.Held.{held-step-is-the-step}
use Rattle.model_walk_lib.specs.Turns.{ordered_at}
use Rattle.model_walk_lib.proofs.Tried.{turn-start, taken-so, passed-so, rested-so}
use Rattle.model_walk_lib.proofs.turns.turn.Goals as goal
use Rattle.model_walk_lib.proofs.turns.turn.Goals.{After-step-answered}

pub loop-k-init : goal.loop-k-init
loop-k-init c = λ fits. (refl, turn-start _ _ _ _)

abbrev came : After-step-answered → Stepped
came s = stepped s.step-answered.result (state_in s.step-answered.new.state)

-- what the turn of the loop came to is step k of the order, from the start of the turn
due : (s : After-step-answered)
    → let a = s.args in
    PortsFit (program_from a.program.now a.begun.now) → came s ≡ step 8 (tables_in a.tables.now) (program_from a.program.now a.begun.now) (state_in a.state.now) (ordered_at s.loop-k.k)
unfolding HeldStepIsTheStep
due s fits =
    let l = s.loop-k in
    let t = tables_in s.args.tables.now in
    let p = program_from s.args.program.now s.args.begun.now in
    s.step-answered.ensures ∙ held-step-is-the-step 8 t p (state_in l.state) _ fits ∙ ap (step 8 t p (state_in l.state)) s.ordered-due.ensures
    ∙ ap (λ (c : Configuration). step 8 t p c (ordered_at l.k)) (l.invariant fits).0

pub returns-then-answered-eq0 : goal.returns-then-answered-eq0
returns-then-answered-eq0 c = λ fits.
    let s = (goal.at.returns-then-answered-eq0 c).After-step-answered in
    let a = c.args in
    taken-so 8 (tables_in a.tables.now) (program_from a.program.now a.begun.now) (state_in a.state.now) c.loop-k.k (c.loop-k.invariant fits).1 c.loop-k-test.true (came s) (due s fits) c.if-answered-eq0.true

pub loop-k-preserved : goal.loop-k-preserved
loop-k-preserved c = λ fits.
    let s = (goal.at.loop-k-preserved c).After-step-answered in
    let a = c.args in
    passed-so 8 (tables_in a.tables.now) (program_from a.program.now a.begun.now) (state_in a.state.now) c.loop-k.k (c.loop-k.invariant fits).1 c.loop-k-test.true (came s) (due s fits) c.if-answered-eq0.false

pub returns : goal.returns
returns c = λ fits.
    let a = c.args in
    let e : c.loop-k.k ≡ 2081 = omega arith in
    rested-so 8 (tables_in a.tables.now) (program_from a.program.now a.begun.now) (state_in a.state.now) 2081 (rw e at (c.loop-k.invariant fits).1) (omega arith) _ (c.loop-k.invariant fits).0
