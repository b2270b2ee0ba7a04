use Rattle.aeolus_correct.proofs.Numbers.{none-required, some-required}
use borrow.Author.Rules.{rules}
use Rattle.aeolus_correct.proofs.required.Statement.{statement}
use Rattle.aeolus_correct.proofs.required.Tie as tie

returns : tie.Need-returns-then-n-eq0
returns c = none-required _ _ _ _ _ _ c.if-n-eq0.true c.present.ensures c.count.ensures

returns-2 : tie.Need-returns
returns-2 c = some-required _ _ _ _ _ _ c.if-n-eq0.false c.providers_of-among.ensures c.count-2.ensures

pub required_spec : {M : Type 1} → statement M
required_spec = tie.close (tie.spec
    (λ c κs. search rules) (λ c κs. search rules) returns (λ c κs. search rules) (λ c κs. search rules) returns-2)
