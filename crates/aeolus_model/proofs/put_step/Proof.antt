use Rattle.aeolus_model.proofs.Puts.{step-put}
use borrow.Author.Rules.{rules}
use Rattle.aeolus_model.proofs.put_step.Statement.{statement}
use Rattle.aeolus_model.proofs.put_step.Tie as tie

returns : tie.Need-returns
returns c =
    let w3 = c in
    let w2 = c in
    let w1 = c in
    rw (c.put_in_area-4.ensures, w3.put_in_area-3.ensures, w2.put_in_area-2.ensures, w1.put_in_area.ensures)
    (step-put _ w1.put_in_area-arg-1.given.0.1 _ _)

pub put_step_spec : {M : Type 1} → statement M
put_step_spec = tie.close (tie.spec
    (λ c κs. search rules) (λ c κs. search rules) (λ c κs. search rules) (λ c κs. search rules) returns)
