use Rattle.std.proofs.Common.{◌≡◌, ℕ, sym, ap, ◌∙◌, arith}
use Rattle.sets.specs.Test.{lowest}
use Rattle.sets.proofs.Laws.{any-start, any-more, any_none}
use Rattle.sets.proofs.Lowest.{lowest-is, lowest-none}
use Rattle.model.specs.View.{type_of}
use Rattle.rules_spec.specs.Refusal.{unconnected}
use Rattle.words.specs.Words.{tables_in, state_in}
use Rattle.step_ports.specs.Turns.{gets, lowest_unconnected}
use Rattle.step_ports.proofs.Ports.{gets-unconnected}
use Rattle.step_ports.proofs.lowest_unconnected.Goals.{After-ports_of-n, After-is_unconnected}
use Rattle.step_ports.proofs.lowest_unconnected.Goals as goal

-- among as many as were read
all : (p : After-ports_of-n)
    → let a = p.args in
    lowest p.ports_of-n.result (gets (tables_in a.tables.now) (state_in a.state.now) a.i a.next unconnected) ≡ lowest_unconnected (tables_in a.tables.now) (state_in a.state.now) a.i a.next
unfolding lowest_unconnected
all p =
    let a = p.args in
    ap (λ (m : ℕ). lowest m (gets (tables_in a.tables.now) (state_in a.state.now) a.i a.next unconnected)) (p.ports_of-n.ensures ∙ ap (λ (k : ℕ). (type_of (tables_in a.tables.now) k).ports) p.kind-k.ensures)

own : (x : After-is_unconnected)
    → let a = x.args in
    gets (tables_in a.tables.now) (state_in a.state.now) a.i a.next unconnected x.loop-q.q ≡ x.is_unconnected.result
own x =
    let a = x.args in
    gets-unconnected (tables_in a.tables.now) (state_in a.state.now) a.i a.next x.loop-q.q ∙ sym (x.is_unconnected.ensures ∙ rw x.kind-k.ensures)

pub loop-q-init : goal.loop-q-init
loop-q-init c = any-start _

pub returns-then-is_unconnected : goal.returns-then-is_unconnected
returns-then-is_unconnected c =
    let l = c.loop-q in
    let p = goal.at.returns-then-is_unconnected c in
    sym (lowest-is _ _ l.q c.loop-q-test.true (own p.After-is_unconnected ∙ c.if-is_unconnected.true) (any_none _ _ l.invariant)) ∙ all p.After-ports_of-n

pub loop-q-preserved : goal.loop-q-preserved
loop-q-preserved c = any-more _ _ c.loop-q.invariant (own (goal.at.loop-q-preserved c).After-is_unconnected ∙ c.if-is_unconnected.false)

pub returns : goal.returns
returns c =
    let e : c.ports_of-n.result ≡ c.loop-q.q = omega arith in
    sym (lowest-none _ _ (rw e c.loop-q.invariant)) ∙ all (goal.at.returns c).After-ports_of-n
