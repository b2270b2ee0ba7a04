use borrow.Author.Rules.{rules}
use Rattle.step_instructions.proofs.tickets.push_ticket_to.Statement.{statement}
use Rattle.step_instructions.proofs.tickets.push_ticket_to.Tie as tie

returns : tie.Need-returns
returns c = rw (← c.ticket_push-s.ensures) c.push_to.ensures

pub push_ticket_to_spec : {M : Type 1} → statement M
push_ticket_to_spec = tie.close (tie.spec
    (λ c κs. search rules) (λ c κs. search rules) returns)
