use mathlib.Core.Path.{sym}
use borrow.Author.Rules.{rules}
use Rattle.aeolus_model.proofs.may_provide.Statement.{statement}
use Rattle.aeolus_model.proofs.may_provide.Tie as tie

pub may_provide_spec : {M : Type 1} → statement M
may_provide_spec = tie.close (tie.spec
    (λ c κs. search rules) (λ c κs. search rules) (λ c. rw (sym c.provides_of.ensures) c.lists_among.ensures))
