use Rattle.aeolus_correct.specs.Tests.{passes}
use borrow.Author.Rules.{rules}
use Rattle.aeolus_correct.proofs.passes.Statement.{statement}
use Rattle.aeolus_correct.proofs.passes.Tie as tie

returns : tie.Need-returns-in-Provides
unfolding passes
returns c = rw c.in-Provides.is c.provides.ensures

returns-2 : tie.Need-returns-in-Employs
unfolding passes
returns-2 c = rw c.in-Employs.is c.employs.ensures

pub passes_spec : {M : Type 1} → statement M
passes_spec = tie.close (tie.spec
    (λ c. search rules) (λ c κs. search rules) (λ c. search rules) (λ c κs. search rules) returns returns-2)
