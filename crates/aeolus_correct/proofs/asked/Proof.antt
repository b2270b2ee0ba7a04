use Rattle.aeolus_correct.proofs.Numbers.{nothing-asked, provision-asked, demand-asked}
use borrow.Author.Rules.{rules}
use Rattle.aeolus_correct.proofs.asked.Statement.{statement}
use Rattle.aeolus_correct.proofs.asked.Tie as tie

returns : tie.Need-returns-then-x-eq0
returns c = nothing-asked _ _ _ _ _ c.if-x-eq0.true

provided-requires : tie.Need-provided-requires
provided-requires c κs = c.requires c.if-m-eq0.true

returns-2 : tie.Need-returns-then-m-eq0
returns-2 c = provision-asked _ _ _ _ _ _ c.if-x-eq0.false c.if-m-eq0.true c.provided.ensures

returns-3 : tie.Need-returns
returns-3 c = demand-asked _ _ _ _ _ _ c.if-x-eq0.false c.if-m-eq0.false c.required.ensures

pub asked_spec : {M : Type 1} → statement M
asked_spec = tie.close (tie.spec
    returns (λ c. search rules) provided-requires returns-2 (λ c. search rules) (λ c κs. search rules) returns-3)
