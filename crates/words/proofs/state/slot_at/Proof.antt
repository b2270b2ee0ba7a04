use mathlib.Core.Path.{sym, ◌∙◌}
use Rattle.words.proofs.InState.{slot_at}
use borrow.Author.Rules.{rules}
use Rattle.words.proofs.state.slot_at.Statement.{statement}
use Rattle.words.proofs.state.slot_at.Tie as tie

returns : tie.Need-returns
returns c = c.cell.ensures ∙ sym (slot_at _ _)

pub slot_at_spec : {M : Type 1} → statement M
slot_at_spec = tie.close (tie.spec
    (λ c κs. search rules) returns)
