use Rattle.std.proofs.Common.{◌≡◌, Bool, true, false, not, ◌&&◌, refl, ap, rules}
use Rattle.words.specs.Words.{tables_in, state_in}
use Rattle.words.proofs.InState.{servers-length}
use Rattle.step_ports.specs.Turns.{is_unconnected}
use Rattle.step_ports.proofs.Ports.{linked-looked}
use Rattle.step_ports.proofs.is_unconnected.Statement.{statement}
use Rattle.step_ports.proofs.is_unconnected.Tie as tie

twice : (b : Bool) → b ≡ not (not b)
twice true = refl
twice false = refl

returns : tie.Need-returns-then-is_use
unfolding is_unconnected
returns c =
    let w = c in
    let u = c in
    let a = c.args in
    rw (← u.is_use.ensures, w.if-is_use.true, ← w.active_with.ensures, linked-looked (tables_in a.tables.now) (state_in a.state.now) (servers-length a.state.now) a.i a.q, ← c.server_of.ensures)
    (ap (◌&&◌ w.active_with.result) (twice _))

returns-2 : tie.Need-returns-else-is_use
unfolding is_unconnected
returns-2 c = rw (← c.is_use.ensures, c.if-is_use.false)

pub is_unconnected_spec : {M : Type 1} → statement M
is_unconnected_spec = tie.close (tie.spec
    (λ c κs. search rules) (λ c κs. search rules) (λ c κs. search rules) returns returns-2)
