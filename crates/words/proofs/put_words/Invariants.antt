use Rattle.std.proofs.Common.{◌≡◌, take}
use Rattle.words.specs.Rows.{puts}
use Rattle.words.proofs.put_words.Given as goal

abbrev pub invariant-loop-k : goal.invariant-loop-k
invariant-loop-k l = l.words ≡ puts l.initial.words l.at (take l.k l.xs)
