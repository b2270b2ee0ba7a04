use mathlib.Core.Path.{◌∙◌}
use native.Mathlib.Numerals.{add-one}
use native.Mathlib.Omega.{arith}
use Rattle.step_instructions.proofs.Pushes.{same-push}
use borrow.Author.Rules.{rules}
use Rattle.step_instructions.proofs.tickets.push_ticket_check.Statement.{statement}
use Rattle.step_instructions.proofs.tickets.push_ticket_check.Tie as tie

returns : tie.Need-returns
returns c =
    let l = c in
    let x = c.args.line in
    (rw (← add-one x.provider, ← l.is_late-late.ensures) (c.pushb_check.ensures.0 ∙ same-push _ _ _ _ x.number _ _ (omega arith)), c.pushb_check.ensures.1)

pub push_ticket_check_spec : {M : Type 1} → statement M
push_ticket_check_spec = tie.close (tie.spec
    (λ c κs. search rules) (λ c κs. search rules) returns)
