use Rattle.std.proofs.Common.{◌≡◌, ℕ, ◌<◌, Bool, true, false, ◌||◌, eqb, sym, refl, ap, ◌∙◌, ap₂, arith, eq-eqb, ne_eqb}
use mathlib.Core.Logic.{by_cases}
use native.Mathlib.Decide.{dec_lt}
use Rattle.sets.specs.Mask.{with}
use Rattle.sets.proofs.Laws.{any-start, any-more}
use Rattle.model.specs.declared.Concerned.TheVariants.{NoPort}
use Rattle.model.specs.View.{instance, type_of}
use Rattle.rules_spec.specs.Refusal.{unconnected, unserved, provider_refusing, service_in_use}
use Rattle.rules_spec.specs.Standing.{standing}
use Rattle.rules_spec.specs.Instance.{ports_of}
use Rattle.rules_spec.specs.Ports.{in_use}
use Rattle.words.specs.Words.{tables_in, state_in}
use Rattle.words.proofs.InState.{instance-past}
use Rattle.step_ports.specs.declared.Answered.{Answered}
use Rattle.step_ports.specs.Turns.{port_refusal, sets_of, gets, late_number, first_refusal}
use Rattle.step_ports.proofs.Ports.{below-start, below_in, below_out, any_next, none-overlap, none-ends, gets-use, use-low}
use Rattle.step_ports.proofs.First.{first-named, first-late}
use Rattle.step_ports.proofs.first_refusal.Goals.{After-ports_of-n, After-port_refusal-x, After-loop-q}
use Rattle.step_ports.proofs.first_refusal.Goals as goal

pub loop-q-init : goal.loop-q-init
loop-q-init c = record { passes = any-start _; refused = sym (any-start _); ends = below-start _ }

-- as many ports as were read
many : (p : After-ports_of-n)
    → let a = p.args in
    p.ports_of-n.result ≡ ports_of (tables_in a.tables.now) (instance (state_in a.state.now) a.i)
many p =
    let a = p.args in
    p.ports_of-n.ensures ∙ ap (λ (k : ℕ). (type_of (tables_in a.tables.now) k).ports) p.kind-k.ensures

-- the port looked at gets what was answered
own : (x : After-port_refusal-x)
    → let a = x.args in
    let v = instance (state_in a.state.now) a.i in
    port_refusal (tables_in a.tables.now) (state_in a.state.now) a.i v.kind (sets_of v) a.next x.loop-q.q ≡ x.port_refusal-x.result
own x = sym (x.port_refusal-x.ensures ∙ rw (x.held.ensures, x.marked.ensures, x.kind-k.ensures))

told : (x : After-port_refusal-x) (n : ℕ) (b : Bool) → eqb x.port_refusal-x.result n ≡ b
    → let a = x.args in
    gets (tables_in a.tables.now) (state_in a.state.now) a.i a.next n x.loop-q.q ≡ b
told x n b e = ap (λ (m : ℕ). eqb m n) (own x) ∙ e

-- a port that fails is a use port, and so below 256
low : (x : After-port_refusal-x) → (eqb x.port_refusal-x.result unconnected || eqb x.port_refusal-x.result unserved) ≡ true
    → x.loop-q.q < 256
low x e =
    let a = x.args in
    let d = state_in a.state.now in
    let q = x.loop-q.q in
    use-low a.tables.now (instance d a.i).kind q (gets-use (tables_in a.tables.now) d a.i a.next q (rw (own x) e))

pub about-requires : goal.about-requires
about-requires c = low (goal.at.about-requires c).After-port_refusal-x (rw c.if-x-eq-UNCONNECTED.true)

pub returns-then-x-eq-UNCONNECTED : goal.returns-then-x-eq-UNCONNECTED
returns-then-x-eq-UNCONNECTED c =
    let l = c.loop-q in
    let a = c.args in
    let p = goal.at.returns-then-x-eq-UNCONNECTED c in
    c.about.ensures
    ∙ first-named (tables_in a.tables.now) (state_in a.state.now) a.i a.next l.q _ (rw (← many p.After-ports_of-n) c.loop-q-test.true) l.invariant.passes (own p.After-port_refusal-x ∙ c.if-x-eq-UNCONNECTED.true) refl

pub about-requires-then-x-eq-UNSERVED : goal.about-requires-then-x-eq-UNSERVED
about-requires-then-x-eq-UNSERVED c = low (goal.at.about-requires-then-x-eq-UNSERVED c).After-port_refusal-x (rw c.if-x-eq-UNSERVED.true)

pub returns-then-x-eq-UNSERVED : goal.returns-then-x-eq-UNSERVED
returns-then-x-eq-UNSERVED c =
    let l = c.loop-q in
    let a = c.args in
    let p = goal.at.returns-then-x-eq-UNSERVED c in
    c.about-then-x-eq-UNSERVED.ensures
    ∙ first-named (tables_in a.tables.now) (state_in a.state.now) a.i a.next l.q _ (rw (← many p.After-ports_of-n) c.loop-q-test.true) l.invariant.passes (own p.After-port_refusal-x ∙ c.if-x-eq-UNSERVED.true) refl

pub loop-q-preserved : goal.loop-q-preserved
loop-q-preserved c =
    let i = c.loop-q.invariant in
    let x = (goal.at.loop-q-preserved c).After-port_refusal-x in
    let a = c.args in
    record {
      passes = any-more _ _ i.passes (rw (own x, ne_eqb _ _ c.if-x-eq-UNCONNECTED.false, ne_eqb _ _ c.if-x-eq-UNSERVED.false));
      refused = ap₂ ◌||◌ i.refused (sym (told x provider_refusing _ refl)) ∙ sym (any_next c.loop-q.q (gets (tables_in a.tables.now) (state_in a.state.now) a.i a.next provider_refusing));
      ends = elim c.if-x-eq-SERVICE_IN_USE.branch [
        | goal.then-x-eq-SERVICE_IN_USE w ↦ w.ending-is ∙ w.with-ending.ensures ∙ ap (with c.loop-q.q) i.ends ∙ below_in _ c.loop-q.q (told x service_in_use true (eq-eqb _ _ w.if-x-eq-SERVICE_IN_USE.true))
        | goal.else-x-eq-SERVICE_IN_USE w ↦ w.ending-is ∙ i.ends ∙ below_out _ c.loop-q.q (told x service_in_use false (ne_eqb _ _ w.if-x-eq-SERVICE_IN_USE.false))
      ];
    }

-- after the last port
ended : (l : After-loop-q)
    → let a = l.args in
    l.loop-q.q ≡ ports_of (tables_in a.tables.now) (instance (state_in a.state.now) a.i)
ended l = omega (arith, l.ports_of-n.ensures ∙ ap (λ (k : ℕ). (type_of (tables_in l.args.tables.now) k).ports) l.kind-k.ensures)

-- none fails
late : (l : After-loop-q)
    → let a = l.args in
    ◌≡◌ {A = Answered} (record { refused = late_number (tables_in a.tables.now) (state_in a.state.now) a.i a.next; port = NoPort })
    (first_refusal (tables_in a.tables.now) (state_in a.state.now) a.i a.next)
late l =
    let a = l.args in
    first-late (tables_in a.tables.now) (state_in a.state.now) a.i a.next (rw (← ended l) l.loop-q.invariant.passes)

pub returns-then-refuses : goal.returns-then-refuses
returns-then-refuses c =
    let l = (goal.at.returns-then-refuses c).After-loop-q in
    c.about_none.ensures ∙ (rw (← ended l, ← l.loop-q.invariant.refused, c.if-refuses.true) at (late l))

pub returns-then-ending-eq0 : goal.returns-then-ending-eq0
returns-then-ending-eq0 c =
    let l = (goal.at.returns-then-ending-eq0 c).After-loop-q in
    let v = l.loop-q.invariant in
    let a = c.args in
    c.about_none-then-ending-eq0.ensures
    ∙ (rw (← ended l, ← v.refused, c.if-refuses.false, ← v.ends, c.if-ending-eq0.true, none-overlap (in_use (tables_in a.tables.now) (standing (state_in a.state.now)) (state_in a.state.now) a.i)) at (late l))

-- a service ends, so that the instance is one of the 32
pub in_use-used-requires : goal.in_use-used-requires
in_use-used-requires c =
    let l = c.loop-q in
    let a = c.args in
    by_cases (dec_lt a.i 32) (λ h. h)
    (λ far. absurd (c.if-ending-eq0.false (l.invariant.ends
    ∙ none-ends (tables_in a.tables.now) (state_in a.state.now) a.i (instance-past a.state.now a.i (omega arith)) a.next l.q)))

pub returns : goal.returns
returns c =
    let l = (goal.at.returns c).After-loop-q in
    let v = l.loop-q.invariant in
    c.about_none-2.ensures
    ∙ rw (c.refuse_if.ensures, c.overlaps.ensures, c.in_use-used.ensures)
    (rw (← ended l, ← v.refused, c.if-refuses.false, ← v.ends) at (late l))
