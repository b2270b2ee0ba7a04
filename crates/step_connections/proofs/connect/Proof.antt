use mathlib.Core.Path.{◌∙◌, refl}
use mathlib.Core.Logic.{by_cases}
use native.Mathlib.Omega.{arith}
use native.Mathlib.Decide.{dec_lt}
use borrow.Author.Tests.{lt-ltb, le-ltb}
use Rattle.model.specs.View.{port_number}
use Rattle.rules_spec.specs.Con.{connected}
use Rattle.rules_spec.specs.DCon.{disconnected}
use borrow.Author.Rules.{rules}
use Rattle.step_connections.proofs.connect.Statement.{statement}
use Rattle.step_connections.proofs.connect.Tie as tie

returns : tie.Need-returns
unfolding connected disconnected
returns c =
    let a = c.args in
    c.put_server.ensures ∙ rw c.server_number-x.ensures (by_cases (dec_lt (port_number a.v a.p) 4294967295) (λ h. rw (lt-ltb _ _ h) refl) (λ h. rw (le-ltb (port_number a.v a.p) 4294967295 (omega arith)) refl))

pub connect_spec : {M : Type 1} → statement M
connect_spec = tie.close (tie.spec
    (λ c κs. search rules) (λ c. search rules) (λ c. search rules) (λ c κs. search rules) returns)
