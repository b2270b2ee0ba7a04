use Rattle.read_items.specs.Says.{most}
use Rattle.std.proofs.Common.{◌-◌}
use Rattle.read_items.proofs.Within.{Left}
use Rattle.read_items.proofs.numbers.numbers_within.Given as goal

abbrev pub invariant-loop-k : goal.invariant-loop-k
invariant-loop-k l = Left (most l.digits) l.at l.held l.s l.got l.next l.k (l.held.count - l.k)
