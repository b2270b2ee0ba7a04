use borrow.Author.Rules.{rules}
use Rattle.step_instructions.proofs.tickets.begun_stamp.Statement.{statement}
use Rattle.step_instructions.proofs.tickets.begun_stamp.Tie as tie

returns : tie.Need-returns
returns c = rw c.begun_slot.ensures

pub begun_stamp_spec : {M : Type 1} → statement M
begun_stamp_spec = tie.close (tie.spec
    (λ c. search rules) (λ c. search rules) (λ c κs. search rules) returns)
