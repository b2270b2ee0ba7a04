use mathlib.Core.Path.{sym, ◌∙◌}
use borrow.Author.Rules.{rules}
use Rattle.model.proofs.View.{list_at}
use Rattle.areas.proofs.Areas.{list-past}
use Rattle.areas.proofs.in_area.Statement.{statement}
use Rattle.areas.proofs.in_area.Tie as tie

returns : tie.Need-returns-then-k-n
returns c = c.at_or.ensures ∙ sym (list_at _ _ 0 _ c.if-k-n.true)

returns-2 : tie.Need-returns-else-k-n
returns-2 c = sym (list-past _ _ 0 _ c.if-k-n.false)

pub in_area_spec : {M : Type 1} → statement M
in_area_spec = tie.close (tie.spec
    (λ c. search rules) (λ c κs. search rules) returns returns-2)
