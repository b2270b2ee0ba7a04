use Rattle.std.proofs.Common.{◌≡◌, ℕ, Bool, true, ltb, sym, ap, ◌∙◌, rules, le-ltb, lt-ltb}
use Rattle.sets.specs.Test.{any_below, lowest}
use Rattle.sets.proofs.Lowest.{lowest-holds}
use Rattle.model.specs.View.{instance, type_of}
use Rattle.rules_spec.specs.Refusal.{unconnected}
use Rattle.rules_spec.specs.Instance.{ports_of}
use Rattle.words.specs.Words.{tables_in, state_in}
use Rattle.step_ports.specs.declared.Answered.{Answered}
use Rattle.step_ports.specs.Turns.{gets, lowest_unconnected}
use Rattle.step_ports.proofs.Lowest.{lowest-low}
use Rattle.step_ports.proofs.Ports.{gets-use, use-low}
use Rattle.step_ports.proofs.First.{settled, unconnected-named}
use Rattle.step_ports.proofs.ports_refusal.Statement.{statement}
use Rattle.step_ports.proofs.ports_refusal.Tie as tie

-- how many ports there are
many : (p : tie.After-ports_of-n)
    → let a = p.args in
    p.ports_of-n.result ≡ ports_of (tables_in a.tables.now) (instance (state_in a.state.now) a.i)
many p =
    let a = p.args in
    p.ports_of-n.ensures ∙ ap (λ (k : ℕ). (type_of (tables_in a.tables.now) k).ports) p.kind.ensures

abbrev getting : tie.Start → ℕ → Bool
getting s q = let a = s.args in gets (tables_in a.tables.now) (state_in a.state.now) a.i a.next unconnected q

abbrev ports : tie.Start → ℕ
ports s = let a = s.args in ports_of (tables_in a.tables.now) (instance (state_in a.state.now) a.i)

-- whether some port is unconnected
told : (u : tie.After-lowest_unconnected-low)
    → let s = u in
    ltb u.lowest_unconnected-low.result u.ports_of-n.result ≡ any_below (ports u.before.before.before.before.before.before) (getting u.before.before.before.before.before.before)
unfolding lowest_unconnected
told u = rw (u.lowest_unconnected-low.ensures, many u.before) (lowest-low _ (getting u.before.before.before.before.before.before))

returns : tie.Need-returns-then-first-ne-UNSERVED
returns c =
    let f = c in
    let a = c.args in
    f.first_refusal-first.ensures
    ∙ settled (tables_in a.tables.now) (state_in a.state.now) a.i a.next (λ e. absurd (c.if-first-ne-UNSERVED.true (ap (λ (r : Answered). r.refused) f.first_refusal-first.ensures ∙ e)))

-- the port named is a use port, and so below 256
about-requires : tie.Need-about-requires
unfolding lowest_unconnected
about-requires c κs =
    let u = c in
    let s = c in
    let a = c.args in
    let d = state_in a.state.now in
    let on : any_below (ports c.before.before.before.before.before.before.before) (getting c.before.before.before.before.before.before.before) ≡ true = sym (told c.before) ∙ lt-ltb _ _ c.if-low-n.true in
    let q = lowest (ports c.before.before.before.before.before.before.before) (getting c.before.before.before.before.before.before.before) in
    rw u.lowest_unconnected-low.ensures
    (use-low a.tables.now (instance d a.i).kind q (gets-use (tables_in a.tables.now) d a.i a.next q (rw (lowest-holds (ports c.before.before.before.before.before.before.before) (getting c.before.before.before.before.before.before.before) on).passes)))

returns-2 : tie.Need-returns-then-low-n
unfolding lowest_unconnected
returns-2 c =
    let u = c in
    let a = c.args in
    c.about.ensures
    ∙ rw u.lowest_unconnected-low.ensures
    (unconnected-named (tables_in a.tables.now) (state_in a.state.now) a.i a.next (sym (told c.before.before) ∙ lt-ltb _ _ c.if-low-n.true))

returns-3 : tie.Need-returns
returns-3 c =
    let u = c in
    let f = c in
    let a = c.args in
    f.first_refusal-first.ensures
    ∙ settled (tables_in a.tables.now) (state_in a.state.now) a.i a.next (λ e. sym (told c.before) ∙ le-ltb _ _ c.if-low-n.false)

pub ports_refusal_spec : {M : Type 1} → statement M
ports_refusal_spec =
    tie.close
    (tie.spec
    (λ c κs. search rules) returns (λ c κs. search rules) (λ c κs. search rules) (λ c κs. search rules) about-requires returns-2 returns-3)
