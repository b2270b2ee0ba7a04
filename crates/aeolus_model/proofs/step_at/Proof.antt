use Rattle.aeolus_model.proofs.Puts.{step_in}
use borrow.Author.Rules.{rules}
use Rattle.aeolus_model.proofs.step_at.Statement.{statement}
use Rattle.aeolus_model.proofs.step_at.Tie as tie

returns : tie.Need-returns
returns c =
    let third = c in
    let second = c in
    rw (step_in, c.in_area-third.ensures, third.in_area-second.ensures, second.in_area-first.ensures, second.in_area-verb.ensures)

pub step_at_spec : {M : Type 1} → statement M
step_at_spec = tie.close (tie.spec
    (λ c κs. search rules) (λ c κs. search rules) (λ c κs. search rules) (λ c κs. search rules) returns)
