use Rattle.rules_spec.specs.Add.{add_check}
use borrow.Author.Rules.{rules}
use Rattle.step_instructions.proofs.add_check.Statement.{statement}
use Rattle.step_instructions.proofs.add_check.Tie as tie

returns : tie.Need-returns
unfolding add_check
returns c = rw (← c.present.ensures) c.refuse_if.ensures

pub add_check_spec : {M : Type 1} → statement M
add_check_spec = tie.close (tie.spec
    (λ c κs. search rules) (λ c κs. search rules) returns)
