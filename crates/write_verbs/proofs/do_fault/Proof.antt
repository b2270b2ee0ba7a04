use mathlib.Core.Path.{sym, ◌∙◌}
use Rattle.write_verbs.proofs.Foreign.{foreign-fault, own-fault}
use borrow.Author.Rules.{rules}
use Rattle.write_verbs.proofs.do_fault.Statement.{statement}
use Rattle.write_verbs.proofs.do_fault.Tie as tie

pub do_fault_spec : {M : Type 1} → statement M
do_fault_spec =
    tie.close
    (tie.spec
    (λ c κs. search rules) (λ c. foreign-fault _ _ _ (sym c.is_foreign.ensures ∙ c.if-is_foreign.true)) (λ c κs. search rules) (λ c κs. search rules)
    (λ c. let v = c in c.verb_fault.ensures ∙ v.do_verb.ensures.fault-is _ _ _ _ ∙ own-fault _ _ _ (sym v.is_foreign.ensures ∙ v.if-is_foreign.false)))
