use mathlib.Core.Path.{sym}
use borrow.Author.Rules.{rules}
use Rattle.aeolus_model.proofs.may_require.Statement.{statement}
use Rattle.aeolus_model.proofs.may_require.Tie as tie

pub may_require_spec : {M : Type 1} → statement M
may_require_spec = tie.close (tie.spec
    (λ c κs. search rules) (λ c κs. search rules) (λ c. rw (sym c.requires_of.ensures) c.lists_among.ensures))
