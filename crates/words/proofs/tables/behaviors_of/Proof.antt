use mathlib.Core.Path.{refl, sym, ◌∙◌}
use Rattle.model.specs.declared.ComponentType.{ComponentType}
use Rattle.words.proofs.InTables.{type_at}
use borrow.Author.Rules.{rules}
use Rattle.words.proofs.tables.behaviors_of.Statement.{statement}
use Rattle.words.proofs.tables.behaviors_of.Tie as tie

returns : tie.Need-returns
returns c = c.cell.ensures ∙ sym (type_at _ _ (λ (x : ComponentType). x.behaviors) refl)

pub behaviors_of_spec : {M : Type 1} → statement M
behaviors_of_spec = tie.close (tie.spec
    (λ c κs. search rules) returns)
