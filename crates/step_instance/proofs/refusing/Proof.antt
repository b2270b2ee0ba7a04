use mathlib.Core.Path.{sym, ◌∙◌}
use Rattle.model.specs.View.{instance}
use Rattle.rules_spec.specs.Ports.{refusing}
use Rattle.words.specs.Words.{tables_in, state_in}
use borrow.Author.Rules.{rules}
use Rattle.step_instance.proofs.Ended.{none-entered}
use Rattle.step_instance.proofs.refusing.Statement.{statement}
use Rattle.step_instance.proofs.refusing.Tie as tie

returns : tie.Need-returns-then-not-active
unfolding refusing
returns c = rw (← c.active.ensures, c.if-not-active.true)

returns-2 : tie.Need-returns-then-some_leaves
unfolding refusing
returns-2 c =
    let a = c in
    rw (← a.active.ensures, c.if-not-active.false, ← c.some_leaves.ensures, c.if-some_leaves.true)

returns-3 : tie.Need-returns-then-ended-eq0
unfolding refusing
returns-3 c =
    let e = c in
    let a = c in
    let s = c.args in
    rw (← a.active.ensures, e.if-not-active.false, ← e.some_leaves.ensures, e.if-some_leaves.false)
    (sym (none-entered (tables_in s.tables.now) (instance (state_in s.state.now) s.i) _ s.q (sym c.ended.ensures ∙ c.if-ended-eq0.true)))

returns-4 : tie.Need-returns
unfolding refusing
returns-4 c =
    let e = c in
    let a = c in
    rw (← a.active.ensures, e.if-not-active.false, ← e.some_leaves.ensures, e.if-some_leaves.false, ← c.behavior.ensures) c.some_enters.ensures

pub refusing_spec : {M : Type 1} → statement M
refusing_spec = tie.close (tie.spec
    (λ c κs. search rules) returns (λ c κs. search rules) returns-2 (λ c κs. search rules) returns-3 (λ c κs. search rules) (λ c κs. search rules)
    returns-4)
