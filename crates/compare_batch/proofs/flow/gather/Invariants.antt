use Rattle.std.proofs.Common.{◌-◌, length}
use Rattle.compare_batch.specs.Within.{Inside}
use Rattle.compare_batch.proofs.flow.gather.Given as goal

abbrev pub invariant-loop-unread : goal.invariant-loop-unread
invariant-loop-unread g l = Inside l.unread l.input

-- each read that gives something leaves less room
abbrev pub decreases-loop-unread : goal.decreases-loop-unread
decreases-loop-unread g l = length l.input - (l.unread.to - l.unread.at)
