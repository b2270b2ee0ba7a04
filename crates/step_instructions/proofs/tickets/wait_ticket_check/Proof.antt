use mathlib.Core.Path.{◌∙◌}
use native.Mathlib.Numerals.{add-one}
use borrow.Author.Rules.{rules}
use Rattle.step_instructions.proofs.tickets.wait_ticket_check.Statement.{statement}
use Rattle.step_instructions.proofs.tickets.wait_ticket_check.Tie as tie

returns : tie.Need-returns
returns c =
    let w = c in
    c.wait_one_check.ensures ∙ rw (w.was_pushed-made.ensures, add-one)

pub wait_ticket_check_spec : {M : Type 1} → statement M
wait_ticket_check_spec = tie.close (tie.spec
    (λ c κs. search rules) (λ c κs. search rules) returns)
