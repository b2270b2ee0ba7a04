use mathlib.Core.Path.{refl}
use Rattle.step_instructions.proofs.tickets.pushes.Statement.{statement}
use Rattle.step_instructions.proofs.tickets.pushes.Tie as tie

pub pushes_spec : {M : Type 1} → statement M
pushes_spec = tie.close (tie.spec
    (λ c. refl))
