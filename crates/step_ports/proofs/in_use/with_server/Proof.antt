use Rattle.std.proofs.Common.{rules}
use Rattle.step_ports.proofs.in_use.with_server.Statement.{statement}
use Rattle.step_ports.proofs.in_use.with_server.Tie as tie

returns : tie.Need-returns-then-active
returns c =
    let s = c in
    rw (← s.active.ensures, s.if-active.true, ← s.server_of.ensures, ← c.provideport.ensures) c.with.ensures

returns-2 : tie.Need-returns-else-active
returns-2 c = rw (← c.active.ensures, c.if-active.false)

pub with_server_spec : {M : Type 1} → statement M
with_server_spec = tie.close (tie.spec
    (λ c κs. search rules) (λ c κs. search rules) (λ c κs. search rules) (λ c κs. search rules) returns returns-2)
