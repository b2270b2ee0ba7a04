use borrow.Author.Rules.{rules}
use Rattle.step_instance.proofs.end_of.Statement.{statement}
use Rattle.step_instance.proofs.end_of.Tie as tie

returns : tie.Need-returns-then-out
returns c = rw c.if-out.true c.source.ensures

returns-2 : tie.Need-returns-else-out
returns-2 c = rw c.if-out.false c.destination.ensures

pub end_of_spec : {M : Type 1} → statement M
end_of_spec = tie.close (tie.spec
    (λ c κs. search rules) (λ c κs. search rules) returns returns-2)
