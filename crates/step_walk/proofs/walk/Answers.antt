use Rattle.std.proofs.Common.{◌≡◌, ℕ, List, length, sym, ap, ◌∙◌, arith}
use Rattle.model.proofs.View.{length-list}
use Rattle.words.specs.Rows.{row}
use Rattle.words.specs.Words.{tables_in, state_in, program_from, answer_in, step_in}
use Rattle.step_walk.specs.Held.{held_step}
use Rattle.step_walk.specs.Reached.{stepped}
use Rattle.step_walk.proofs.Ahead.{walk_start, walk_end, walk_refused, walk_more}
use Rattle.step_walk.proofs.walk.Goals as goal

full : (ws : List ℕ) → length (answer_in ws).steps ≡ 1024
unfolding answer_in
full ws = length-list 1024 (λ k. step_in k (row ws 0 3 k))

pub loop-k-init : goal.loop-k-init
loop-k-init c = walk_start _ _ _ _ _

pub returns-then-answered-ne0 : goal.returns-then-answered-ne0
returns-then-answered-ne0 c =
    let l = c.loop-k in
    let a = c.args in
    let came = stepped c.step-answered.result (state_in c.step-answered.new.state) in
    rw c.come_to.ensures (sym (l.invariant
    ∙ walk_refused a.default (tables_in a.tables.now) (program_from a.program.now a.begun.now) (answer_in a.answer.now) (state_in l.state) (full a.answer.now) l.k came (omega (arith, c.step_count-n.ensures, c.loop-k-test.true)) (c.step-answered.ensures ∙ ap (held_step a.default (tables_in a.tables.now) (program_from a.program.now a.begun.now) (state_in l.state)) c.step_at-due.ensures) c.if-answered-ne0.true))

pub loop-k-preserved : goal.loop-k-preserved
loop-k-preserved c =
    let l = c.loop-k in
    let a = c.args in
    let came = stepped c.step-answered.result (state_in c.step-answered.new.state) in
    l.invariant
    ∙ walk_more a.default (tables_in a.tables.now) (program_from a.program.now a.begun.now) (answer_in a.answer.now) (state_in l.state) (full a.answer.now) l.k came (omega (arith, c.step_count-n.ensures, c.loop-k-test.true)) (c.step-answered.ensures ∙ ap (held_step a.default (tables_in a.tables.now) (program_from a.program.now a.begun.now) (state_in l.state)) c.step_at-due.ensures) c.if-answered-ne0.false

pub returns : goal.returns
returns c =
    let l = c.loop-k in
    let a = c.args in
    let e : c.step_count-n.result ≡ l.k = omega arith in
    rw (c.come_to-2.ensures, c.about_none.ensures, e) (sym (l.invariant
    ∙ walk_end a.default (tables_in a.tables.now) (program_from a.program.now a.begun.now) (answer_in a.answer.now) (state_in l.state) (full a.answer.now) l.k (omega (arith, c.step_count-n.ensures, c.loop-k-test.false))))
