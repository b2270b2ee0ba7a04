use Rattle.judge_lib.specs.Came.{begin_read}
use Rattle.judge_lib.proofs.pairs.begin.Goals as goal

pub returns-in_default : goal.returns-in_default
unfolding begin_read
returns-in_default c = rw (c.in_default.is, c.requires.0, c.requires.1)

pub returns : goal.returns
unfolding begin_read
returns c = rw c.in-Some.is c.fill_start.ensures
