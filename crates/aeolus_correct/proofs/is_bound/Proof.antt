use mathlib.Core.Path.{◌∙◌}
use borrow.Author.Rules.{rules}
use Rattle.aeolus_correct.proofs.is_bound.Statement.{statement}
use Rattle.aeolus_correct.proofs.is_bound.Tie as tie

returns : tie.Need-returns
returns c = c.member.ensures ∙ c.providers_of.ensures _

pub is_bound_spec : {M : Type 1} → statement M
is_bound_spec = tie.close (tie.spec
    (λ c κs. search rules) (λ c κs. search rules) returns)
