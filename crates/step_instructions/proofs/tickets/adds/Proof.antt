use mathlib.Core.Path.{refl}
use Rattle.step_instructions.proofs.tickets.adds.Statement.{statement}
use Rattle.step_instructions.proofs.tickets.adds.Tie as tie

pub adds_spec : {M : Type 1} → statement M
adds_spec = tie.close (tie.spec
    (λ c. refl))
