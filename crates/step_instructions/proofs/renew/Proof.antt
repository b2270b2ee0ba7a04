use mathlib.Core.Path.{◌∙◌}
use Rattle.rules_spec.specs.Closing.{renewed}
use borrow.Author.Rules.{rules}
use Rattle.step_instructions.proofs.renew.Statement.{statement}
use Rattle.step_instructions.proofs.renew.Tie as tie

returns : tie.Need-returns
unfolding renewed
returns c = c.put_bare.ensures ∙ rw c.zero_slots.ensures

pub renew_spec : {M : Type 1} → statement M
renew_spec = tie.close (tie.spec
    (λ c κs. search rules) (λ c κs. search rules) returns)
