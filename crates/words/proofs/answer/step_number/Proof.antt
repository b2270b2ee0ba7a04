use mathlib.Core.Path.{refl, sym, ◌∙◌}
use Rattle.model.specs.declared.Step.{Step}
use Rattle.words.proofs.InTexts.{step-at}
use borrow.Author.Rules.{rules}
use Rattle.words.proofs.answer.step_number.Statement.{statement}
use Rattle.words.proofs.answer.step_number.Tie as tie

returns : tie.Need-returns
returns c = c.cell.ensures ∙ sym (step-at _ _ (λ (x : Step). x.number) refl)

pub step_number_spec : {M : Type 1} → statement M
step_number_spec = tie.close (tie.spec
    (λ c κs. search rules) returns)
