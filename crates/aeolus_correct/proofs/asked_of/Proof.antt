use mathlib.Core.Path.{◌∙◌}
use Rattle.aeolus_correct.proofs.Members.{asked-all, asked-used}
use borrow.Author.Rules.{rules}
use Rattle.aeolus_correct.proofs.asked_of.Statement.{statement}
use Rattle.aeolus_correct.proofs.asked_of.Tie as tie

returns : tie.Need-returns-then-m-ne0
returns c = λ z h. asked-all _ _ _ z c.present-all.ensures c.if-m-ne0.true

returns-2 : tie.Need-returns
returns-2 c = λ z h. asked-used _ _ _ z _ h c.present-all.ensures c.if-m-ne0.false (c.without-2.ensures ∙ rw c.without.ensures)

pub asked_of_spec : {M : Type 1} → statement M
asked_of_spec = tie.close (tie.spec
    (λ c κs. search rules) returns (λ c κs. search rules) (λ c κs. search rules) returns-2)
