use Rattle.form_lib.proofs.Laws.{fault-none, fault-some}
use borrow.Author.Rules.{rules}
use Rattle.form_lib.proofs.fault_of.Statement.{statement}
use Rattle.form_lib.proofs.fault_of.Tie as tie

pub fault_of_spec : {M : Type 1} → statement M
fault_of_spec =
    tie.close
    (tie.spec
    (λ c. fault-none _ _ _ c.if-refused-le-TOO_LONG.true) (λ c κs. search rules)
    (λ c. fault-some _ _ _ c.if-refused-le-TOO_LONG.false _ c.line_number-line.ensures))
