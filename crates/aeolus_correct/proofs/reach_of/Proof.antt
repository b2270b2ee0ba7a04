-- The targets of those that are behind stand in the table.
use mathlib.Core.Path.{refl}
use native.Mathlib.Omega.{arith}
use Rattle.sets.proofs.Members.{Rest, rest-start, rest-later, left, left_less, least_lt}
use Rattle.aeolus_model.specs.Words.{universe_in, configuration_in}
use Rattle.aeolus_correct.proofs.Users.{Filled, filled_none, filled_more, filled-all}
use borrow.Author.Rules.{rules}
use Rattle.aeolus_correct.proofs.reach_of.Statement.{statement}
use Rattle.aeolus_correct.proofs.reach_of.Tie as tie

abbrev invariant-loop : tie.invariant-loop-rest
invariant-loop universe deployed m targets₀ used₀ rest₀ targets used rest = Rest rest₀ rest × Filled (universe_in universe) (configuration_in deployed) rest targets used

abbrev decreases-loop : tie.decreases-loop-rest
decreases-loop universe deployed m targets₀ used₀ rest₀ targets used rest = left rest

returns : tie.Need-returns-then-m-ne0 invariant-loop decreases-loop
returns c = λ e. absurd (c.if-m-ne0.true e)

loop-holds : tie.Need-loop-rest-init invariant-loop decreases-loop
loop-holds c =
    let a = c.args in
    (rest-start c.present-rest.result c.present-rest.type_inv, filled_none (universe_in a.universe.now) (configuration_in a.deployed.now) _ _ _ refl c.present-rest.ensures)

-- the place is in the table
inside : tie.Need-bounds-targets-y invariant-loop decreases-loop
inside c =
    let t = c in
    omega (arith, c.least-y.ensures, least_lt _ t.loop-rest.rest t.loop-rest.invariant.0 t.loop-rest-test.true)

loop-less : tie.Need-loop-rest-smaller invariant-loop decreases-loop
loop-less c =
    let t = c in
    rw c.later-rest.ensures (left_less _ t.loop-rest.rest t.loop-rest.invariant.0 t.loop-rest-test.true)

loop-again : tie.Need-loop-rest-preserved invariant-loop decreases-loop
loop-again c =
    let t = c in
    let l = c.loop-rest in
    let some = c.loop-rest-test.true in
    let a = c.args in
    rw (c.later-rest.ensures, c.joined-used.ensures) (
      rest-later _ l.rest l.invariant.0 some,
      filled_more (universe_in a.universe.now) (configuration_in a.deployed.now) l.rest l.targets l.used l.invariant.1 l.invariant.0.fits some c.least-y.ensures c.targets_of-own.ensures,
    )

returns-2 : tie.Need-returns invariant-loop decreases-loop
returns-2 c =
    let a = c.args in
    λ e. filled-all (universe_in a.universe.now) (configuration_in a.deployed.now) _ _ _ c.loop-rest-test.false c.loop-rest.invariant.1

pub reach_of_spec : {M : Type 1} → statement M
reach_of_spec =
    tie.close
    (tie.spec
    invariant-loop decreases-loop returns (λ c κs. search rules) loop-holds (λ c κs. search rules) (λ c κs. search rules) (λ c. search rules)
    (λ c. search rules) inside (λ c κs. search rules) (λ c κs. search rules) loop-less loop-again returns-2)
