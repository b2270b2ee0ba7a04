use Rattle.std.proofs.Common.{◌≡◌, List, ℕ, ◌<◌, min, length, get_or, ap, arith, ◌∙◌}
use borrow.Author.Rules.{rules}
use Rattle.model.specs.declared.Step.{Step}
use Rattle.model.specs.declared.Stepped.{Stepped}
use Rattle.model.specs.Empty.{no_step}
use Rattle.model.proofs.View.{length-list}
use Rattle.timing_spec.specs.Clock.{at_start, started, tick}
use Rattle.judge_spec.specs.Course.{default_depth}
use Rattle.words.specs.Rows.{row}
use Rattle.words.specs.Words.{tables_in, program_from, answer_in, state_in, step_in}
use Rattle.timing_clock.specs.Once.{times_in}
use Rattle.timing_clock.specs.Paced.{clock_at}
use Rattle.step_walk.specs.Reached.{stepped}
use Rattle.step_walk.specs.Held.{held_step}
use Rattle.timing_clock.proofs.Beside.{kept-start, kept_more, at-start, one_further, at-refusal, at-end}
use Rattle.timing_clock.proofs.walk_timed.Goals as goal
use Rattle.timing_clock.proofs.walk_timed.Goals.{After-step-answered, In-loop-k}

full : (ws : List ℕ) → length (answer_in ws).steps ≡ 1024
unfolding answer_in
full ws = length-list 1024 (λ k. step_in k (row ws 0 3 k))

pub loop-k-init : goal.loop-k-init
unfolding at_start
loop-k-init c = (search rules, kept-start, λ listed. at-start _ _ _ _ _ _)

-- what the turn came to is the step that is due
abbrev came : After-step-answered → Stepped
came s = stepped s.step-answered.result (state_in s.step-answered.new.state)

due : (s : After-step-answered)
    → let a = s.args in
    came s ≡ held_step default_depth (tables_in a.tables.now) (program_from a.program.now a.begun.now) (state_in s.loop-k.state) (get_or (answer_in a.answer.now).steps s.loop-k.k no_step)
due s =
    let a = s.args in
    s.step-answered.ensures ∙ ap (held_step default_depth (tables_in a.tables.now) (program_from a.program.now a.begun.now) (state_in s.loop-k.state)) s.step_at-due.ensures

within : (t : In-loop-k) → t.loop-k.k < min (answer_in t.args.answer.now).count 1024
within t = omega (arith, t.step_count-n.ensures, t.loop-k-test.true)

pub returns-then-refused-ne0 : goal.returns-then-refused-ne0
returns-then-refused-ne0 c listed =
    let s = (goal.at.returns-then-refused-ne0 c).After-step-answered in
    let t = (goal.at.returns-then-refused-ne0 c).In-loop-k in
    let a = c.args in
    at-refusal default_depth (tables_in a.tables.now) (program_from a.program.now a.begun.now) (state_in a.state.now) (answer_in a.answer.now) (times_in a.par listed a.seconds.now) (full a.answer.now) (c.loop-k.invariant.2 listed) (came s) (within t) (due s) c.if-refused-ne0.true

pub tick-clock-requires : goal.tick-clock-requires
tick-clock-requires c =
    let h = c.loop-k.invariant.1 in
    record { small = omega (arith, h.slow, c.loop-k-test.true, c.step_count-n.ensures); past = h.past }

pub loop-k-preserved : goal.loop-k-preserved
unfolding tick
loop-k-preserved c =
    let s = (goal.at.loop-k-preserved c).After-step-answered in
    let t = (goal.at.loop-k-preserved c).In-loop-k in
    let a = c.args in
    let before = state_in c.loop-k.state in
    let after = state_in c.step-answered.new.state in
    let id = c.step_at-due.result.id in
    let starts : c.without-xs.result ≡ started before after id = c.without-xs.ensures ∙ rw (c.running.ensures, c.running-before.ensures) in
    let e = c.tick-clock.ensures before after starts in (
      search rules,
      kept_more c.loop-k.invariant.1 e.pace,
      λ listed.
          let ts = times_in a.par listed a.seconds.now in
          one_further default_depth (tables_in a.tables.now) (program_from a.program.now a.begun.now) (state_in a.state.now) (answer_in a.answer.now) ts (full a.answer.now) (c.loop-k.invariant.2 listed) (came s) (within t) (due s) c.if-refused-ne0.false _
          (e.value ∙ ap (λ (x : Step). tick ts before after x (clock_at c.loop-k.clock c.loop-k.noted)) c.step_at-due.ensures),
    )

pub returns : goal.returns
returns c listed =
    let a = c.args in
    let e : c.loop-k.k ≡ c.step_count-n.result = omega arith in
    let met = at-end default_depth (tables_in a.tables.now) (program_from a.program.now a.begun.now) (state_in a.state.now) (answer_in a.answer.now) (times_in a.par listed a.seconds.now) (full a.answer.now) (rw e at (c.loop-k.invariant.2 listed)) (omega (arith, c.step_count-n.ensures)) in
    record { walked-is = met.walked-is; mark-is = c.mark-mark.ensures ∙ met.mark-is }
