use Rattle.std.proofs.Common.{◌≡◌, arith}
use Rattle.words.specs.Parts.{said_step}
use Rattle.words.specs.Words.{state_in, answer_in}
use Rattle.model_walk_lib.proofs.Onward.{come-start, come-end, rest-so, more-so, answer-full}
use Rattle.model_walk_lib.proofs.model_steps.Goals as goal

pub loop-k-init : goal.loop-k-init
loop-k-init c = λ fits. come-start _ _ _ _ _

pub returns-then-at-ge-ORDERED-clause-walks : goal.returns-then-at-ge-ORDERED-clause-walks
returns-then-at-ge-ORDERED-clause-walks c = λ fits.
    rest-so _ _ _ _ c.loop-k.k _ (state_in c.loop-k.state) (c.loop-k.invariant fits) _ _ (c.turn-at.ensures fits).0 (c.turn-at.ensures fits).1 c.loop-k-test.true c.if-at-ge-ORDERED.true

pub loop-k-preserved : goal.loop-k-preserved
loop-k-preserved c = λ fits.
    rw c.put_step.ensures (more-so _ _ _ _ c.loop-k.k _ (state_in c.loop-k.state) (c.loop-k.invariant fits) _ _ (c.turn-at.ensures fits).0 (c.turn-at.ensures fits).1 c.loop-k-test.true
    c.if-at-ge-ORDERED.false (answer-full _) (said_step c.ordered-s.result) c.ordered-s.ensures (answer_in c.loop-k.answer))

pub returns-clause-walks : goal.returns-clause-walks
returns-clause-walks c = λ fits.
    let e : c.loop-k.k ≡ 1024 = omega arith in come-end _ _ _ _ 1024 _ (state_in c.loop-k.state) (rw e at (c.loop-k.invariant fits)) (omega arith)
