use mathlib.Core.Path.{refl, sym, ◌∙◌}
use Rattle.model.specs.declared.Step.{Step}
use Rattle.words.proofs.InTexts.{step-at}
use borrow.Author.Rules.{rules}
use Rattle.words.proofs.answer.step_at.Statement.{statement}
use Rattle.words.proofs.answer.step_at.Tie as tie

returns : tie.Need-returns
returns c =
    let id = c in
    let verb = c in
    let a = c.args in
    λ i. record {
      verb = (verb.cell.ensures ∙ sym (step-at a.answer.now a.n (λ (x : Step). x.verb) refl)) i;
      id = (id.cell-2.ensures ∙ sym (step-at a.answer.now a.n (λ (x : Step). x.id) refl)) i;
      number = (c.cell-3.ensures ∙ sym (step-at a.answer.now a.n (λ (x : Step). x.number) refl)) i;
    }

pub step_at_spec : {M : Type 1} → statement M
step_at_spec = tie.close (tie.spec
    (λ c κs. search rules) (λ c κs. search rules) (λ c κs. search rules) returns)
