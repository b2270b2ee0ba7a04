use Rattle.std.proofs.Common.{◌≡◌, ◌-◌, ◌/◌, ◌%◌, not, ◌&&◌, eqb, rules, eq-eqb, ne_eqb}
use Rattle.model.specs.Empty.{no_server}
use Rattle.model.specs.View.{instance}
use Rattle.rules_spec.specs.Refusal.{◌⇒◌∣◌, allowed, unconnected, unserved, provider_refusing}
use Rattle.rules_spec.specs.Instance.{active}
use Rattle.words.specs.Words.{tables_in, state_in}
use Rattle.words.specs.Parts.{server_of}
use Rattle.words.proofs.InState.{servers-length}
use Rattle.step_instance.specs.Alone.{refusing_at}
use Rattle.step_ports.specs.Turns.{use_refusal}
use Rattle.step_ports.proofs.Ports.{use-looked}
use Rattle.step_ports.proofs.use_refusal.Statement.{statement}
use Rattle.step_ports.proofs.use_refusal.Tie as tie

-- what the one look tells
looked : (s : tie.After-server_of-x)
    → let a = s.args in
    let t = tables_in a.tables.now in
    let d = state_in a.state.now in
    let x = server_of d a.i a.q in
    use_refusal t d a.i a.before a.q
    ≡ (not (not (eqb x no_server)) ⇒ unconnected
    ∣ not (not (eqb x no_server) && active t (instance d ((x - 1) / 16)) ((x - 1) % 16)) ⇒ unserved
    ∣ not a.before && (not (eqb x no_server) && refusing_at t d ((x - 1) / 16) ((x - 1) % 16)) ⇒ provider_refusing
    ∣ allowed)
looked s = let a = s.args in use-looked (tables_in a.tables.now) (state_in a.state.now) (servers-length a.state.now) a.i a.q a.before

returns : tie.Need-returns-then-x-eq0
returns c =
    let s = c in
    rw (looked c.before, ← s.server_of-x.ensures, eq-eqb _ _ c.if-x-eq0.true)

returns-2 : tie.Need-returns-then-not-active
returns-2 c =
    let a = c in
    let p = c in
    let e = c in
    rw (looked c.before.before.before.before.before, ← e.server_of-x.ensures, ne_eqb _ _ e.if-x-eq0.false, ← p.provider-v.ensures, ← p.provideport-p.ensures, ← a.active.ensures, c.if-not-active.true)

returns-3 : tie.Need-returns-then-before
returns-3 c =
    let a = c in
    let p = c in
    let e = c in
    rw (looked c.before.before.before.before.before.before, ← e.server_of-x.ensures, ne_eqb _ _ e.if-x-eq0.false, ← p.provider-v.ensures, ← p.provideport-p.ensures, ← a.active.ensures, c.if-not-active.false, c.if-before.true)

returns-4 : tie.Need-returns
returns-4 c =
    let f = c in
    let a = c in
    let p = c in
    let e = c in
    rw (looked c.before.before.before.before.before.before.before.before, ← e.server_of-x.ensures, ne_eqb _ _ e.if-x-eq0.false, ← p.provider-v.ensures, ← p.provideport-p.ensures, ← a.active.ensures, f.if-not-active.false, f.if-before.false, ← c.refusing.ensures)
    c.refuse_if.ensures

pub use_refusal_spec : {M : Type 1} → statement M
use_refusal_spec =
    tie.close
    (tie.spec
    (λ c κs. search rules) returns (λ c κs. search rules) (λ c κs. search rules) (λ c κs. search rules) returns-2 returns-3 (λ c κs. search rules)
    (λ c κs. search rules) returns-4)
