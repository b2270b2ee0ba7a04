use Rattle.rules_spec.specs.Del.{del_check}
use borrow.Author.Rules.{rules}
use Rattle.step_instructions.proofs.del_check.Statement.{statement}
use Rattle.step_instructions.proofs.del_check.Tie as tie

returns : tie.Need-returns
unfolding del_check
returns c =
    let l = c in
    let n = c in
    rw (← n.present-here.ensures, ← n.is_named-named.ensures, ← l.queued.ensures, ← l.refuse_if-late.ensures, ← c.refuse_if.ensures) c.refuse_if-2.ensures

pub del_check_spec : {M : Type 1} → statement M
del_check_spec = tie.close (tie.spec
    (λ c κs. search rules) (λ c κs. search rules) (λ c κs. search rules) (λ c κs. search rules) (λ c κs. search rules) (λ c κs. search rules) returns)
