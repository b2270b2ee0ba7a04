use mathlib.Core.Path.{refl, sym, ◌∙◌}
use Rattle.model.specs.declared.Instruction.{Instruction}
use Rattle.words.proofs.InTexts.{instruction-at}
use borrow.Author.Rules.{rules}
use Rattle.words.proofs.program.instruction.Statement.{statement}
use Rattle.words.proofs.program.instruction.Tie as tie

returns : tie.Need-returns
returns c =
    let provider = c in
    let number = c in
    let id = c in
    let verb = c in
    let a = c.args in
    λ i. record {
      verb = (verb.cell.ensures ∙ sym (instruction-at a.program.now a.n (λ (x : Instruction). x.verb) refl)) i;
      id = (id.cell-2.ensures ∙ sym (instruction-at a.program.now a.n (λ (x : Instruction). x.id) refl)) i;
      number = (number.cell-3.ensures ∙ sym (instruction-at a.program.now a.n (λ (x : Instruction). x.number) refl)) i;
      provider = (provider.cell-4.ensures ∙ sym (instruction-at a.program.now a.n (λ (x : Instruction). x.provider) refl)) i;
      provideport = (c.cell-5.ensures ∙ sym (instruction-at a.program.now a.n (λ (x : Instruction). x.provideport) refl)) i;
    }

pub instruction_spec : {M : Type 1} → statement M
instruction_spec = tie.close (tie.spec
    (λ c κs. search rules) (λ c κs. search rules) (λ c κs. search rules) (λ c κs. search rules) (λ c κs. search rules) returns)
