use mathlib.Core.Path.{◌≡◌, ap, ◌∙◌}
use native.Mathlib.Omega.{arith}
use Rattle.model.specs.declared.Instruction.{Instruction}
use Rattle.rules_spec.specs.Tickets.{pushed_to}
use Rattle.rules_spec.specs.Action.{instruction_action}
use Rattle.rules_spec.specs.Step.{action_at}
use Rattle.words.specs.Words.{program_from, state_in}
use Rattle.words.specs.Parts.{said}
use Rattle.step_walk.proofs.Steps.{move-refused, move-made, none_left, next-refused, next-made}
use borrow.Author.Rules.{rules}
use Rattle.step_walk.proofs.step.Statement.{statement}
use Rattle.step_walk.proofs.step.Tie as tie

returns : tie.Need-returns-then-answered-ne0
returns c =
    let m = c in
    move-refused _ _ _ _ _ m.if-verb-ne0.true _ (m.move_check-answered.ensures m.args.default) c.if-answered-ne0.true

returns-2 : tie.Need-returns-then-verb-ne0
returns-2 c =
    let e = c in
    let m = c in
    rw c.about_none.ensures (move-made _ _ _ _ _ m.if-verb-ne0.true _ (m.move_check-answered.ensures m.args.default) e.if-answered-ne0.false _ c.move_to.ensures)

returns-3 : tie.Need-returns-then-instructions-at
returns-3 c =
    let i = c in
    let d = c in
    rw c.about_none-then-instructions-at.ensures (none_left _ _ _ _ _ d.if-verb-ne0.false (omega (arith, i.instructions.ensures, d.done-at.ensures, c.if-instructions-at.true)))

-- the instruction that is due
due : (n : tie.After-instruction-line)
    → let s = n.args in
    instruction_action (pushed_to (program_from s.program.now s.begun.now) n.instruction-line.result.id n.done-at.result) (said n.instruction-line.result) ≡ action_at (program_from s.program.now s.begun.now) (state_in s.state.now).done
unfolding action_at
due n =
    let s = n.args in
    ap (λ (x : Instruction). instruction_action (pushed_to (program_from s.program.now s.begun.now) x.id n.done-at.result) x) n.instruction-line.ensures
    ∙ ap (action_at (program_from s.program.now s.begun.now)) n.done-at.ensures

returns-4 : tie.Need-returns-then-refused-ne0
returns-4 c =
    let o = c in
    let n = c in
    let i = c in
    let d = c in
    rw c.about_none-then-refused-ne0.ensures
    (next-refused _ _ _ _ _ d.if-verb-ne0.false _ (omega (arith, i.instructions.ensures, d.done-at.ensures, n.if-instructions-at.false)) (rw (due c.before.before.before) at o.line_check-refused.ensures.0) c.if-refused-ne0.true)

returns-5 : tie.Need-returns
unfolding action_at
returns-5 c =
    let t = c in
    let f = c in
    let o = c in
    let n = c in
    let i = c in
    let d = c in
    let s = c.args in
    let l = pushed_to (program_from s.program.now s.begun.now) n.instruction-line.result.id d.done-at.result in
    rw c.about_none-2.ensures
    (next-made _ _ _ _ _ d.if-verb-ne0.false _ (omega (arith, i.instructions.ensures, d.done-at.ensures, n.if-instructions-at.false)) (rw (due c.before.before.before.before.before.before.before) at o.line_check-refused.ensures.0) f.if-refused-ne0.false _
    (c.put_done.ensures ∙ rw (t.line_to.ensures l (o.line_check-refused.ensures.1 l f.if-refused-ne0.false), due c.before.before.before.before.before.before.before, d.done-at.ensures)))

pub step_spec : {M : Type 1} → statement M
step_spec =
    tie.close
    (tie.spec
    (λ c κs. search rules) returns (λ c κs. search rules) (λ c κs. search rules) returns-2 (λ c κs. search rules) (λ c κs. search rules)
    (λ c κs. search rules) returns-3 (λ c κs. search rules) (λ c κs. search rules) (λ c κs. search rules) returns-4 (λ c κs. search rules)
    (λ c. search rules) (λ c κs. search rules) (λ c κs. search rules) returns-5)
