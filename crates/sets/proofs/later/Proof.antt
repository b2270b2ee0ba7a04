use mathlib.Core.Path.{◌∙◌}
use borrow.Author.Rules.{rules}
use Rattle.sets.proofs.later.Statement.{statement}
use Rattle.sets.proofs.later.Tie as tie

pub later_spec : {M : Type 1} → statement M
later_spec =
    tie.close
    (tie.spec
    (λ c κs. search rules) (λ c κs. search rules) (λ c κs. search rules) (λ c. c.without.ensures ∙ rw (c.only.ensures, c.least.ensures)))
