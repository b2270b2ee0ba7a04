use mathlib.Core.Path.{◌∙◌}
use Rattle.aeolus_step.proofs.Acts.{act-refused, act-reaches}
use borrow.Author.Rules.{rules}
use Rattle.aeolus_step.proofs.act.Statement.{statement}
use Rattle.aeolus_step.proofs.act.Tie as tie

returns : tie.Need-returns-then-refused-ne0
returns c = act-refused _ _ _ _ c.own_check-refused.ensures c.if-refused-ne0.true

returns-2 : tie.Need-returns
returns-2 c = c.reach.ensures ∙ act-reaches _ _ _ _ c.own_check-refused.ensures c.if-refused-ne0.false

pub act_spec : {M : Type 1} → statement M
act_spec = tie.close (tie.spec
    (λ c κs. search rules) returns (λ c κs. search rules) returns-2)
