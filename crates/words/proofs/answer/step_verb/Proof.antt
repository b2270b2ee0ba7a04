use mathlib.Core.Path.{refl, sym, ◌∙◌}
use Rattle.model.specs.declared.Step.{Step}
use Rattle.words.proofs.InTexts.{step-at}
use borrow.Author.Rules.{rules}
use Rattle.words.proofs.answer.step_verb.Statement.{statement}
use Rattle.words.proofs.answer.step_verb.Tie as tie

returns : tie.Need-returns
returns c = c.cell.ensures ∙ sym (step-at _ _ (λ (x : Step). x.verb) refl)

pub step_verb_spec : {M : Type 1} → statement M
step_verb_spec = tie.close (tie.spec
    (λ c κs. search rules) returns)
