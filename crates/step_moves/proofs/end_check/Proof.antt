use Rattle.rules_spec.specs.End.{end_check}
use borrow.Author.Rules.{rules}
use Rattle.step_moves.proofs.end_check.Statement.{statement}
use Rattle.step_moves.proofs.end_check.Tie as tie

returns : tie.Need-returns
unfolding end_check
returns c = rw (← c.running.ensures, ← c.member-runs.ensures, ← c.refuse_if.ensures) c.first.ensures

pub end_check_spec : {M : Type 1} → statement M
end_check_spec = tie.close (tie.spec
    (λ c κs. search rules) (λ c κs. search rules) (λ c κs. search rules) (λ c κs. search rules) returns)
