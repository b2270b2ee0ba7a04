use Rattle.std.proofs.Common.{rules, refl, arith}
use Rattle.model.specs.View.{list_of}
use Rattle.judge_lib.proofs.Onward.{filled-long, filled_more, filled-all}
use Rattle.judge_lib.proofs.next.fill_lasts.Goals as goal

pub loop-i-init : goal.loop-i-init
unfolding list_of
loop-i-init c = record { long = search rules; filled = refl }

pub loop-i-preserved : goal.loop-i-preserved
loop-i-preserved c =
    let l = c.loop-i in
    record { long = filled-long l.lasts l.i _ l.invariant.long; filled = filled_more _ l.lasts _ _ (omega arith) l.invariant.filled c.last_of.ensures }

pub returns : goal.returns
returns c = filled-all _ _ c.loop-i.i (omega arith) (omega arith) c.loop-i.invariant.long c.loop-i.invariant.filled
