-- None of the marked places that are behind is one.
use mathlib.Core.Path.{◌≡◌, sym, ◌∙◌}
use mathlib.Core.Bool.{Bool, true, false, ◌&&◌}
use borrow.Author.Rules.{rules}
use Rattle.sets.specs.Test.{any_below}
use Rattle.sets.specs.Mask.{member, least}
use Rattle.sets.proofs.Members.{Rest, rest-start, left, left_less, behind, none-start, members-hit, searched, none_end}
use Rattle.model.specs.View.{instance}
use Rattle.words.specs.Words.{tables_in, state_in}
use Rattle.step_instance.specs.Alone.{leaves_by, some_leaves}
use Rattle.step_instance.proofs.Marked.{marked-leaves}
use Rattle.step_instance.proofs.some_leaves.Statement.{statement}
use Rattle.step_instance.proofs.some_leaves.Tie as tie

abbrev invariant-loop : tie.invariant-loop-rest
invariant-loop tables state i any q m rest₀ rest = Rest rest₀ rest × (any_below 32 (behind rest₀ (leaves_by (tables_in tables) (instance (state_in state) i) m any q) rest) ≡ false)

abbrev decreases-loop : tie.decreases-loop-rest
decreases-loop tables state i any q m rest₀ rest = left rest

loop-holds : tie.Need-loop-rest-init invariant-loop decreases-loop
loop-holds c = (rest-start c.marked-rest.result c.marked-rest.type_inv, none-start c.marked-rest.result _)

-- the search over the marked places tells
told : (c : tie.After-marked-rest invariant-loop decreases-loop) (r : Bool)
    → let a = c.args in
    any_below 32 (λ p. member p c.marked-rest.result && leaves_by (tables_in a.tables.now) (instance (state_in a.state.now) a.i) c.behavior-m.result a.any a.q p) ≡ r
    → r ≡ some_leaves (tables_in a.tables.now) (state_in a.state.now) a.i a.any a.q
told c r e = sym e ∙ rw (c.marked-rest.ensures, c.behavior-m.ensures) (marked-leaves _ _ _ _ _)

-- the place looked at
own : (e : tie.After-would_leave invariant-loop decreases-loop) (r : Bool) → e.would_leave.result ≡ r
    → let l = e in
    let b = e in
    let a = e.args in
    leaves_by (tables_in a.tables.now) (instance (state_in a.state.now) a.i) b.behavior-m.result a.any a.q (least l.loop-rest.rest) ≡ r
own e r h = rw (← e.least.ensures) (sym e.would_leave.ensures ∙ h)

returns : tie.Need-returns-then-would_leave invariant-loop decreases-loop
returns c =
    let e = c in
    let l = c in
    told c.before.before.before.before.before true (members-hit _ _ l.loop-rest.rest l.loop-rest.invariant.0 e.loop-rest-test.true (own c.before true c.if-would_leave.true))

loop-less : tie.Need-loop-rest-smaller invariant-loop decreases-loop
loop-less c =
    let t = c in
    rw c.later-rest.ensures (left_less _ t.loop-rest.rest t.loop-rest.invariant.0 t.loop-rest-test.true)

loop-again : tie.Need-loop-rest-preserved invariant-loop decreases-loop
loop-again c =
    let e = c in
    let l = c.loop-rest in
    rw c.later-rest.ensures (searched _ _ l.rest l.invariant.0 e.loop-rest-test.true l.invariant.1 (own c.before.before false c.if-would_leave.false))

returns-2 : tie.Need-returns invariant-loop decreases-loop
returns-2 c = let l = c in told c.before.before false (none_end _ _ l.loop-rest.rest c.loop-rest-test.false l.loop-rest.invariant.1)

pub some_leaves_spec : {M : Type 1} → statement M
some_leaves_spec =
    tie.close
    (tie.spec
    invariant-loop decreases-loop (λ c κs. search rules) (λ c κs. search rules) loop-holds (λ c κs. search rules) (λ c κs. search rules) returns
    (λ c κs. search rules) loop-less loop-again returns-2)
