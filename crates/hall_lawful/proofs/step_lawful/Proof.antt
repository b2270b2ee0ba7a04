use mathlib.Core.Bool.{and-true, and-false}
use mathlib.Core.Path.{sym}
use borrow.Author.Tests.{ne_eqb}
use Rattle.read_spec.specs.Lawful.{step_lawful}
use Rattle.read_spec.specs.Limits.{id_ok}
use Rattle.hall_lawful.proofs.step_lawful.Statement.{statement}
use Rattle.hall_lawful.proofs.step_lawful.Tie as tie

pub step_lawful_spec : {M : Type 1} → statement M
unfolding step_lawful
step_lawful_spec = tie.close (tie.spec
    (λ c. rw c.in-0.is) (λ c. rw c.in-1.is) (λ c. rw c.in-2.is) (λ c. rw c.in-3.is) (λ c. rw c.in-4.is (sym (and-true _)))
    (λ c. let r = c.in_default.in_default-own.rest in rw (ne_eqb _ _ r.0.0.0.0.1, ne_eqb _ _ r.0.0.0.1, ne_eqb _ _ r.0.0.1, ne_eqb _ _ r.0.1, ne_eqb _ _ r.1) (sym (and-false (id_ok c.args.id)))))
