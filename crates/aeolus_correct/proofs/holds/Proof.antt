-- What is asked of those that are left is what is asked of all.
use mathlib.Core.Path.{◌≡◌, refl, sym, ◌∙◌}
use mathlib.Core.Bool.{Bool, true, false}
use Rattle.sets.specs.Mask.{least}
use Rattle.sets.proofs.Members.{Rest, rest-start, rest-later, left, left_less, least_lt}
use Rattle.aeolus_model.specs.Words.{universe_in, configuration_in}
use Rattle.aeolus_correct.proofs.Members.{all_pass, all-none-left, all-hit, all-missed}
use Rattle.aeolus_correct.proofs.Users.{ports_hold, all_hold}
use borrow.Author.Rules.{rules}
use Rattle.aeolus_correct.proofs.holds.Statement.{statement}
use Rattle.aeolus_correct.proofs.holds.Tie as tie

abbrev invariant-loop : tie.invariant-loop-rest
invariant-loop universe deployed m targets rest₀ rest =
    Rest rest₀ rest × (all_pass (ports_hold (universe_in universe) (configuration_in deployed) m) rest ≡ all_pass (ports_hold (universe_in universe) (configuration_in deployed) m) rest₀)

abbrev decreases-loop : tie.decreases-loop-rest
decreases-loop universe deployed m targets rest₀ rest = left rest

loop-holds : tie.Need-loop-rest-init invariant-loop decreases-loop
loop-holds c = (rest-start c.asked_of-rest.result c.asked_of-rest.type_inv, refl)

component-holds-requires : tie.Need-component_holds-requires invariant-loop decreases-loop
component-holds-requires c κs =
    let t = c in
    let l = c in
    (rw c.least.ensures (least_lt _ l.loop-rest.rest l.loop-rest.invariant.0 t.loop-rest-test.true), λ e. (l.reach_of-reach.ensures e).0)

-- whether the component looked at holds
own : (e : tie.After-component_holds invariant-loop decreases-loop) (b : Bool) → e.component_holds.result ≡ b
    → (let a = e.args in
    ports_hold (universe_in a.universe.now) (configuration_in a.deployed.now) a.m (least e.loop-rest.rest)) ≡ b
own e b h = rw (← e.least.ensures) (sym e.component_holds.ensures ∙ h)

returns : tie.Need-returns-then-not-component_holds invariant-loop decreases-loop
returns c =
    let e = c in
    let t = c in
    let l = c in
    let a = c.args in
    sym (all-missed (ports_hold (universe_in a.universe.now) (configuration_in a.deployed.now) a.m) l.loop-rest.rest l.loop-rest.invariant.0.fits t.loop-rest-test.true
    (own c.before false c.if-not-component_holds.true)) ∙ l.loop-rest.invariant.1 ∙ all_hold (universe_in a.universe.now) (configuration_in a.deployed.now) a.m _ _ l.asked_of-rest.ensures (λ e. (l.reach_of-reach.ensures e).1)

loop-less : tie.Need-loop-rest-smaller invariant-loop decreases-loop
loop-less c =
    let t = c in
    rw c.later-rest.ensures (left_less _ t.loop-rest.rest t.loop-rest.invariant.0 t.loop-rest-test.true)

loop-again : tie.Need-loop-rest-preserved invariant-loop decreases-loop
loop-again c =
    let e = c in
    let t = c in
    let l = c in
    let a = c.args in
    let some = c.loop-rest-test.true in
    rw c.later-rest.ensures (
      rest-later _ l.loop-rest.rest l.loop-rest.invariant.0 some,
      all-hit (ports_hold (universe_in a.universe.now) (configuration_in a.deployed.now) a.m) l.loop-rest.rest l.loop-rest.invariant.0.fits some
          (own c.before.before true c.if-not-component_holds.false) ∙ l.loop-rest.invariant.1,
    )

returns-2 : tie.Need-returns invariant-loop decreases-loop
returns-2 c =
    let l = c in
    let a = c.args in
    sym (all-none-left (ports_hold (universe_in a.universe.now) (configuration_in a.deployed.now) a.m) l.loop-rest.rest c.loop-rest-test.false)
    ∙ l.loop-rest.invariant.1 ∙ all_hold (universe_in a.universe.now) (configuration_in a.deployed.now) a.m _ _ l.asked_of-rest.ensures (λ e. (l.reach_of-reach.ensures e).1)

pub holds_spec : {M : Type 1} → statement M
holds_spec =
    tie.close
    (tie.spec
    invariant-loop decreases-loop (λ c κs. search rules) (λ c κs. search rules) loop-holds (λ c κs. search rules) component-holds-requires returns
    (λ c κs. search rules) loop-less loop-again returns-2)
