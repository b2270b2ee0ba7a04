use mathlib.Core.Path.{sym, ◌∙◌}
use Rattle.words.proofs.InTexts.{begun-slot-at}
use borrow.Author.Rules.{rules}
use Rattle.words.proofs.begun.begun_slot.Statement.{statement}
use Rattle.words.proofs.begun.begun_slot.Tie as tie

returns : tie.Need-returns
returns c = c.cell.ensures ∙ sym (begun-slot-at _ _)

pub begun_slot_spec : {M : Type 1} → statement M
begun_slot_spec = tie.close (tie.spec
    (λ c κs. search rules) returns)
