use mathlib.Core.Path.{sym, ◌∙◌}
use borrow.Author.Rules.{rules}
use Rattle.read_items.proofs.Laws.{list-dash, list-more}
use Rattle.read_items.proofs.list_then.Goals as goal

pub returns-in_default : goal.returns-in_default
returns-in_default c =
    record { within = c.members_then.ensures.within; same = c.members_then.ensures.same ∙ sym (list-more _ _ _ (sym c.in_default.ensures.same)) }

pub returns-in_err-next : goal.returns-in_err-next
returns-in_err-next c =
    rw c.from_residual.ensures
    (record { within = search rules; same = sym (list-dash _ _ _ _ (sym c.in-Some.ensures.same) ∙ rw (sym c.in_err-next.ensures.same)) })

pub returns : goal.returns
returns c =
    record { within = c.in_ok-next.ensures.within; same = sym (list-dash _ _ _ _ (sym c.in-Some.ensures.same) ∙ rw (sym c.in_ok-next.ensures.same)) }
