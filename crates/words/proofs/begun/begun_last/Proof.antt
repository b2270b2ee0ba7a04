use mathlib.Core.Path.{sym, ◌∙◌}
use Rattle.words.proofs.InTexts.{begun-last-at}
use borrow.Author.Rules.{rules}
use Rattle.words.proofs.begun.begun_last.Statement.{statement}
use Rattle.words.proofs.begun.begun_last.Tie as tie

returns : tie.Need-returns
returns c = c.cell.ensures ∙ sym (begun-last-at _ _)

pub begun_last_spec : {M : Type 1} → statement M
begun_last_spec = tie.close (tie.spec
    (λ c κs. search rules) returns)
