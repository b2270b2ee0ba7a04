use Rattle.std.proofs.Common.{rules}
use Rattle.step_ports.specs.Turns.{port_refusal}
use Rattle.step_ports.proofs.port_refusal.Statement.{statement}
use Rattle.step_ports.proofs.port_refusal.Tie as tie

returns : tie.Need-returns-then-after
unfolding port_refusal
returns c =
    let u = c in
    rw (← u.is_use.ensures, c.if-is_use.true, ← u.active_with-after.ensures, c.if-after.true, ← u.active_with-before.ensures) c.use_refusal.ensures

returns-2 : tie.Need-returns-else-after
unfolding port_refusal
returns-2 c =
    let u = c in
    rw (← u.is_use.ensures, c.if-is_use.true, ← u.active_with-after.ensures, c.if-after.false)

returns-3 : tie.Need-returns-else-is_use
unfolding port_refusal
returns-3 c =
    let u = c in
    rw (← u.is_use.ensures, c.if-is_use.false, ← u.active_with-after.ensures, ← u.active_with-before.ensures) c.refuse_if.ensures

pub port_refusal_spec : {M : Type 1} → statement M
port_refusal_spec =
    tie.close (tie.spec
    (λ c κs. search rules) (λ c κs. search rules) (λ c κs. search rules) (λ c κs. search rules) (λ c κs. search rules) returns returns-2 returns-3)
