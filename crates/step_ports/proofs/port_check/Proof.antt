use Rattle.std.proofs.Common.{sym, refl, ap, ◌∙◌, rules}
use Rattle.model.specs.View.{instance}
use Rattle.words.specs.Words.{tables_in, state_in}
use Rattle.step_ports.specs.Turns.{ports_refusal, sets_of, turned}
use Rattle.step_ports.proofs.Ports.{ports-check, same-sets, turned-held}
use Rattle.step_ports.proofs.port_check.Statement.{statement}
use Rattle.step_ports.proofs.port_check.Tie as tie

returns : tie.Need-returns
unfolding turned
returns c =
    let jh = c in
    let he = c in
    let jm = c in
    let wm = c in
    let a = c.args in
    let t = tables_in a.tables.now in
    let d = state_in a.state.now in
    let w = turned (instance d a.i) a.loses a.gains in
    c.ports_refusal.ensures
    ∙ ap (ports_refusal t d a.i)
    (same-sets jm.joined-marks.result jh.joined-holds.result (sets_of w) (jm.joined-marks.ensures ∙ rw (wm.without.ensures, wm.marked.ensures))
    (jh.joined-holds.ensures ∙ rw (jh.without-2.ensures, he.held.ensures) (sym (turned-held (instance d a.i) a.loses a.gains))))
    ∙ ports-check t d a.i w refl

pub port_check_spec : {M : Type 1} → statement M
port_check_spec =
    tie.close
    (tie.spec
    (λ c κs. search rules) (λ c κs. search rules) (λ c κs. search rules) (λ c κs. search rules) (λ c κs. search rules) (λ c κs. search rules)
    (λ c κs. search rules) returns)
