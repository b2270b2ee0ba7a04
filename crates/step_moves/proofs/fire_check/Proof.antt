use mathlib.Core.Path.{◌∙◌}
use Rattle.step_moves.proofs.Settle.{fire-settled}
use borrow.Author.Rules.{rules}
use Rattle.step_moves.proofs.fire_check.Statement.{statement}
use Rattle.step_moves.proofs.fire_check.Tie as tie

pub fire_check_spec : {M : Type 1} → statement M
fire_check_spec =
    tie.close
    (tie.spec
    (λ c κs. search rules) (λ c κs. search rules) (λ c κs. search rules) (λ c κs. search rules) (λ c κs. search rules) (λ c κs. search rules)
    (λ c κs. search rules) (λ c κs. search rules) (λ c κs. search rules)
    (λ c. c.asked.ensures ∙ rw (c.first-refused.ensures, c.row.ensures, c.only.ensures, c.overlaps-taken.ensures, c.held.ensures, c.member-ready.ensures, c.marked.ensures, c.leavers-xs.ensures) (fire-settled _ _ _ _)))
