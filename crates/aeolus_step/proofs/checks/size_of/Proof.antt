use Rattle.aeolus_step.proofs.Rows.{ones-size}
use Rattle.aeolus_step.proofs.checks.size_of.Statement.{statement}
use Rattle.aeolus_step.proofs.checks.size_of.Tie as tie

pub size_of_spec : {M : Type 1} → statement M
size_of_spec = tie.close (tie.spec
    (λ c. ones-size 32 _ c.ranges.m.fits))
