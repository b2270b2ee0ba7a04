use Rattle.step_instructions.proofs.Begun.{late-last}
use borrow.Author.Rules.{rules}
use Rattle.step_instructions.proofs.tickets.is_late.Statement.{statement}
use Rattle.step_instructions.proofs.tickets.is_late.Tie as tie

returns : tie.Need-returns
returns c = rw c.last_stamp.ensures (late-last _ _)

pub is_late_spec : {M : Type 1} → statement M
is_late_spec = tie.close (tie.spec
    (λ c. search rules) (λ c κs. search rules) returns)
