use mathlib.Core.Path.{sym, ◌∙◌}
use borrow.Author.Rules.{rules}
use Rattle.aeolus_model.proofs.lists_among.Statement.{statement}
use Rattle.aeolus_model.proofs.lists_among.Tie as tie

returns : tie.Need-returns-then-lists
returns c =
    let here = c in
    rw (sym here.lists.ensures ∙ here.if-lists.true, sym here.place_of-place.ensures) c.member.ensures

returns-2 : tie.Need-returns-else-lists
returns-2 c = rw (sym c.lists.ensures ∙ c.if-lists.false) c.if-lists.false

pub lists_among_spec : {M : Type 1} → statement M
lists_among_spec = tie.close (tie.spec
    (λ c κs. search rules) (λ c κs. search rules) (λ c κs. search rules) returns returns-2)
