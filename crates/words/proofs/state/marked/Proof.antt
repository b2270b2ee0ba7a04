use mathlib.Core.Path.{refl, sym, ◌∙◌}
use Rattle.model.specs.declared.Instance.{Instance}
use Rattle.words.proofs.InState.{instance-at}
use borrow.Author.Rules.{rules}
use Rattle.words.proofs.state.marked.Statement.{statement}
use Rattle.words.proofs.state.marked.Tie as tie

returns : tie.Need-returns
returns c = c.cell.ensures ∙ sym (instance-at _ _ (λ (v : Instance). v.marked) refl)

pub marked_spec : {M : Type 1} → statement M
marked_spec = tie.close (tie.spec
    (λ c κs. search rules) returns)
