use Prim.Native.Nat.{ℕ, ◌≤◌}
use mathlib.Core.Path.{◌≡◌}
use native.Mathlib.Omega.{arith}
use borrow.Author.Tests.{ne_eqb}
use lib.ListN.{get_or}
use Rattle.model.specs.declared.Configuration.{Configuration}
use Rattle.timing_spec.specs.Clock.{Clock, tick}
use Rattle.words.specs.Parts.{step_of}
use Rattle.timing_clock.specs.Paced.{clock_at, of_seconds, most_seconds, Ticks}
use Rattle.timing_clock.proofs.Pace.{tick-paced}
use borrow.Author.Rules.{rules}
use Rattle.timing_clock.proofs.tick.Statement.{statement}
use Rattle.timing_clock.proofs.tick.Tie as tie

abbrev old : tie.After-slice_known-1 → Clock
old x = let s = x.args in clock_at s.clock s.noted.now

abbrev new : tie.After-slice_known-1 → Configuration → Configuration → Clock
new x c d = let s = x.args in tick (of_seconds s.seconds.now) c d (step_of s.verb s.id s.number) (old x)

few : (x : tie.After-slice_known-1) (j : ℕ) → get_or x.args.seconds.now j 0 ≤ most_seconds
few x j = omega (arith, x.shared_slice_known-1.given j)

-- what is the definition's clock keeps its pace
paced : (x : tie.After-slice_known-1) (c d : Configuration) (l : Clock) → l ≡ new x c d
    → (let s = x.args in Ticks s.seconds.now c d (step_of s.verb s.id s.number) (old x) l)
paced x c d l e = record { value = e; pace = rw e (tick-paced most_seconds _ (few x) _ _ _ (old x) x.requires.past) }

returns : tie.Need-returns-in-1
unfolding tick
returns x c d e =
    let n = x in
    let m = x in
    paced x.before.before.before.before.before c d _ (rw (m.in-1.is, ← e, ← n.note.ensures))

returns-2 : tie.Need-returns-in-2
unfolding tick
returns-2 x c d e =
    let m = x in
    paced x.before.before.before c d _ (rw (m.in-2.is, ← x.pair_slot.ensures, ← x.end_at.ensures))

returns-3 : tie.Need-returns-in_default
unfolding tick
returns-3 x c d e = paced x.before c d _ (rw (ne_eqb _ _ x.in_default.in_default-own.rest.0.1, ne_eqb _ _ x.in_default.in_default-own.rest.1))

pub tick_spec : {M : Type 1} → statement M
tick_spec =
    tie.close
    (tie.spec
    (λ c κs. search rules) (λ c κs. search rules) (λ c κs. search rules) (λ c. search rules) returns (λ c. search rules) returns-2 returns-3)
