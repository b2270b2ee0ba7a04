use mathlib.Core.Path.{◌∙◌}
use Rattle.step_moves.proofs.Settle.{enter-settled}
use borrow.Author.Rules.{rules}
use Rattle.step_moves.proofs.enter_check.Statement.{statement}
use Rattle.step_moves.proofs.enter_check.Tie as tie

pub enter_check_spec : {M : Type 1} → statement M
enter_check_spec =
    tie.close
    (tie.spec
    (λ c κs. search rules) (λ c κs. search rules) (λ c κs. search rules) (λ c κs. search rules) (λ c κs. search rules) (λ c κs. search rules)
    (λ c κs. search rules) (λ c κs. search rules) (λ c κs. search rules)
    (λ c. c.asked.ensures ∙ rw (c.first-refused.ensures, c.row.ensures, c.only.ensures, c.member-taken.ensures, c.marked.ensures, c.within-ready.ensures, c.ended.ensures, c.enterers-xs.ensures) (enter-settled _ _ _ _)))
