use mathlib.Core.Path.{◌∙◌}
use Rattle.rules_spec.specs.Add.{added}
use borrow.Author.Rules.{rules}
use Rattle.step_instructions.proofs.add_to.Statement.{statement}
use Rattle.step_instructions.proofs.add_to.Tie as tie

returns : tie.Need-returns
unfolding added
returns c = c.renew.ensures ∙ rw c.initial_of-marks.ensures

pub add_to_spec : {M : Type 1} → statement M
add_to_spec = tie.close (tie.spec
    (λ c κs. search rules) (λ c κs. search rules) returns)
