-- The rules of the groups below k are written.
use Rattle.page_spec.specs.Page.{filter_rule}
use Rattle.page_lib.proofs.Pieces.{Pieces}
use Rattle.page_lib.proofs.tops.write_rules.Given as goal

abbrev pub invariant-loop-k : goal.invariant-loop-k
invariant-loop-k l = Pieces filter_rule 41 l.k l.initial.t l.t l.at l.p
