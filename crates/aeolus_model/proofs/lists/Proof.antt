use mathlib.Core.Path.{sym}
use Rattle.aeolus_model.proofs.Find.{some-found}
use borrow.Author.Rules.{rules}
use Rattle.aeolus_model.proofs.lists.Statement.{statement}
use Rattle.aeolus_model.proofs.lists.Tie as tie

returns : tie.Need-returns
returns c = rw (c.interfaces_of.ensures, c.place_of.ensures) (sym (some-found _ _))

pub lists_spec : {M : Type 1} → statement M
lists_spec = tie.close (tie.spec
    (λ c κs. search rules) (λ c κs. search rules) returns)
