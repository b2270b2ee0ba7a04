use mathlib.Core.Path.{◌≡◌, refl, ap, ◌∙◌}
use mathlib.Core.Bool.{Bool, true, false, not, cond}
use Prim.Native.Nat.{ℕ}
use borrow.Author.Tests.{lt-ltb, le-ltb}
use Rattle.model.specs.View.{instance, type_of}
use Rattle.rules_spec.specs.Instance.{ports_of}
use Rattle.words.specs.Words.{tables_in, state_in}
use Rattle.rules_spec.specs.Con.{is_use_port, is_provide_port}
use borrow.Author.Rules.{rules}
use Rattle.step_instructions.proofs.is_port.Statement.{statement}
use Rattle.step_instructions.proofs.is_port.Tie as tie

-- how many ports the instance has
many : (p : tie.After-ports_of) → let a = p.args in p.ports_of.result ≡ ports_of (tables_in a.tables.now) (instance (state_in a.state.now) a.i)
many p =
    let a = p.args in
    p.ports_of.ensures ∙ ap (λ (k : ℕ). (type_of (tables_in a.tables.now) k).ports) p.kind-k.ensures

if-same : (b x : Bool) → x ≡ cond b x x
if-same true x = refl
if-same false x = refl

returns : tie.Need-returns-then-ports_of-q
unfolding is_use_port is_provide_port
returns c = rw (← many c.before, le-ltb _ _ c.if-ports_of-q.true) (if-same c.args.used false)

returns-2 : tie.Need-returns-then-used
unfolding is_use_port is_provide_port
returns-2 c =
    let e = c in
    rw (c.if-used.true, ← many c.before.before.before, lt-ltb _ _ e.if-ports_of-q.false, ← e.kind-k.ensures) c.is_use.ensures

returns-3 : tie.Need-returns-else-used
unfolding is_use_port is_provide_port
returns-3 c =
    let e = c in
    rw (c.if-used.false, ← many c.before.before.before, lt-ltb _ _ e.if-ports_of-q.false, ← e.kind-k.ensures) (ap not c.is_use-else-used.ensures)

pub is_port_spec : {M : Type 1} → statement M
is_port_spec = tie.close (tie.spec
    (λ c κs. search rules) (λ c κs. search rules) returns (λ c κs. search rules) (λ c κs. search rules) returns-2 returns-3)
