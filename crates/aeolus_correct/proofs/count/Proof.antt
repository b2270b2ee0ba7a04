-- What is counted and what is left to be counted is the whole.
use Prim.Native.Nat.{ℕ, ◌+◌}
use mathlib.Core.Path.{◌≡◌, sym, ◌∙◌}
use mathlib.Core.Bool.{Bool, true, false, ◌&&◌}
use mathlib.Core.Logic.{⊎_elim}
use native.Mathlib.Omega.{arith}
use Rattle.sets.specs.Mask.{member, least}
use Rattle.sets.proofs.Tally.{tally-le}
use Rattle.sets.proofs.Members.{Rest, rest-start, rest-later, left, left_less}
use Rattle.aeolus_model.specs.Words.{universe_in, configuration_in}
use Rattle.aeolus_correct.specs.Tests.{passes}
use Rattle.aeolus_correct.proofs.Members.{passing, passing-none, passing-in, passing-out}
use borrow.Author.Rules.{rules}
use Rattle.aeolus_correct.proofs.count.Statement.{statement}
use Rattle.aeolus_correct.proofs.count.Tie as tie

abbrev invariant-loop : tie.invariant-loop-rest
invariant-loop test universe deployed r z among n₀ rest₀ n rest =
    Rest among rest
    × (n + passing (passes test (universe_in universe) (configuration_in deployed) r z) rest ≡ passing (passes test (universe_in universe) (configuration_in deployed) r z) among)

abbrev decreases-loop : tie.decreases-loop-rest
decreases-loop test universe deployed r z among n₀ rest₀ n rest = left rest

loop-holds : tie.Need-loop-rest-init invariant-loop decreases-loop
loop-holds c = (rest-start c.args.among c.ranges.among.fits, omega arith)

add-n : tie.Need-overflow_add-n invariant-loop decreases-loop
add-n c =
    let l = c in
    let a = c.args in
    omega (arith, l.loop-rest.invariant.1, tally-le 32 (λ y. member y a.among && passes a.test (universe_in a.universe.now) (configuration_in a.deployed.now) a.r a.z y))

loop-less : tie.Need-loop-rest-smaller invariant-loop decreases-loop
loop-less c =
    let t = c in
    rw c.later-rest.ensures (left_less _ t.loop-rest.rest t.loop-rest.invariant.0 t.loop-rest-test.true)

-- the test of the component looked at
abbrev test : tie.After-passes invariant-loop decreases-loop → ℕ → Bool
test e = let a = e.args in passes a.test (universe_in a.universe.now) (configuration_in a.deployed.now) a.r a.z

own : (e : tie.After-passes invariant-loop decreases-loop) (b : Bool) → e.passes.result ≡ b → test e (least e.loop-rest.rest) ≡ b
own e b h = rw (← e.least.ensures) (sym e.passes.ensures ∙ h)

loop-again : tie.Need-loop-rest-preserved invariant-loop decreases-loop
loop-again c =
    let e = c in
    let t = c in
    let l = c.loop-rest in
    let some = c.loop-rest-test.true in
    rw c.later-rest.ensures (
      rest-later _ l.rest l.invariant.0 some,
      ⊎_elim
          (λ w. omega (arith, w.n-is, l.invariant.1, passing-in (test c.before.before) l.rest l.invariant.0.fits some (own c.before.before true w.if-passes.true)))
          (λ w. omega (arith, w.n-is, l.invariant.1, passing-out (test c.before.before) l.rest l.invariant.0.fits some (own c.before.before false w.if-passes.false)))
          c.if-passes.branch-raw,
    )

returns : tie.Need-returns invariant-loop decreases-loop
returns c =
    let l = c.loop-rest in
    let a = c.args in
    omega (arith, l.invariant.1, passing-none (passes a.test (universe_in a.universe.now) (configuration_in a.deployed.now) a.r a.z) l.rest c.loop-rest-test.false)

pub count_spec : {M : Type 1} → statement M
count_spec =
    tie.close
    (tie.spec
    invariant-loop decreases-loop loop-holds (λ c κs. search rules) (λ c κs. search rules) add-n (λ c κs. search rules) loop-less loop-again returns)
