use mathlib.Core.Path.{sym, ◌∙◌}
use native.Mathlib.Omega.{arith}
use borrow.Author.Rules.{rules}
use Rattle.sets.proofs.Laws.{any-start, any-more, any-end, any-hit}
use Rattle.start_spec.specs.Served.{some_unserved}
use Rattle.read_start.proofs.some_unserved.Goals as goal

pub loop-i-init : goal.loop-i-init
loop-i-init c = any-start _

pub returns-then-fails_still : goal.returns-then-fails_still
unfolding some_unserved
returns-then-fails_still c = sym (any-hit 32 _ c.loop-i.i (search rules) (sym c.fails_still.ensures ∙ c.if-fails_still.true))

pub loop-i-preserved : goal.loop-i-preserved
loop-i-preserved c = any-more c.loop-i.i _ c.loop-i.invariant (sym c.fails_still.ensures ∙ c.if-fails_still.false)

pub returns : goal.returns
unfolding some_unserved
returns c = sym (any-end 32 c.loop-i.i _ (omega arith) (omega arith) c.loop-i.invariant)
