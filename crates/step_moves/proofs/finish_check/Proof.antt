use Rattle.rules_spec.specs.Finish.{finish_row, finish_check}
use borrow.Author.Rules.{rules}
use Rattle.step_moves.proofs.finish_check.Statement.{statement}
use Rattle.step_moves.proofs.finish_check.Tie as tie

returns : tie.Need-returns
unfolding finish_check finish_row
returns c =
    let h = c in
    rw (← h.some_leaves-leaver.ensures, ← h.held.ensures, ← c.refuse_if.ensures) c.first.ensures

pub finish_check_spec : {M : Type 1} → statement M
finish_check_spec = tie.close (tie.spec
    (λ c κs. search rules) (λ c κs. search rules) (λ c κs. search rules) (λ c κs. search rules) returns)
