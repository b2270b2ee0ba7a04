use native.Mathlib.Numerals.{add-one}
use lib.Dec.{eqb-suc-zero}
use Rattle.rules_spec.specs.Wait.{wait_check}
use borrow.Author.Rules.{rules}
use Rattle.step_instructions.proofs.wait_one_check.Statement.{statement}
use Rattle.step_instructions.proofs.wait_one_check.Tie as tie

returns : tie.Need-returns
unfolding wait_check
returns c =
    let n = c in
    let q = c in
    let a = c.args in
    rw (eqb-suc-zero a.ticket, ← q.present-here.ensures, ← add-one a.ticket, ← q.is_queued-waits.ensures, ← n.refuse_if-never.ensures, ← c.refuse_if.ensures) c.refuse_if-2.ensures

pub wait_one_check_spec : {M : Type 1} → statement M
wait_one_check_spec = tie.close (tie.spec
    (λ c κs. search rules) (λ c. search rules) (λ c κs. search rules) (λ c κs. search rules) (λ c κs. search rules) (λ c κs. search rules) returns)
