-- What the user's ports that are behind employ is in the set.
use Rattle.std.proofs.Common.{◌≡◌, ◌-◌, ◌<◌, ◌∙◌, arith, rules}
use Rattle.sets.specs.Mask.{collect}
use Rattle.sets.proofs.Members.{Rest, rest-start, rest-later, left, left_less}
use Rattle.words.specs.Words.{tables_in, state_in}
use Rattle.step_ports.specs.InUse.{uses_of}
use Rattle.step_ports.proofs.InUse.{employed_but, users-start, least-port, users-more, users-end}
use Rattle.step_ports.proofs.in_use.with_user.Statement.{statement}
use Rattle.step_ports.proofs.in_use.with_user.Tie as tie

abbrev invariant-loop : tie.invariant-loop-rest
invariant-loop set tables state i u all₀ rest₀ all rest =
    Rest (uses_of (state_in state).servers u i) rest × (all ≡ collect 32 (employed_but (tables_in tables) (state_in state) i u set rest))

abbrev decreases-loop : tie.decreases-loop-rest
decreases-loop set tables state i u all₀ rest₀ all rest = left rest

loop-holds : tie.Need-loop-rest-init invariant-loop decreases-loop
unfolding uses_of
loop-holds c =
    let s = c in
    rw c.uses_of-rest.ensures (rest-start _ (rw (← c.uses_of-rest.ensures) c.uses_of-rest.type_inv), users-start _ _ _ _ s.args.set s.ranges.set.fits)

-- the least of the rest is a port's number and one more
above : (c : tie.After-least-y invariant-loop decreases-loop) → let l = c in (0 < c.least-y.result) × (c.least-y.result - 1 < 16)
above c =
    let l = c in
    let a = c.args in
    rw c.least-y.ensures (least-port (tables_in a.tables.now) (state_in a.state.now) a.i a.u l.loop-rest.rest l.loop-rest.invariant.0 c.loop-rest-test.true)

sub-with-server : tie.Need-overflow_sub-y invariant-loop decreases-loop
sub-with-server c = omega (arith, (above c).0)

loop-less : tie.Need-loop-rest-smaller invariant-loop decreases-loop
loop-less c =
    let t = c in
    rw c.later-rest.ensures (left_less _ t.loop-rest.rest t.loop-rest.invariant.0 t.loop-rest-test.true)

loop-again : tie.Need-loop-rest-preserved invariant-loop decreases-loop
loop-again c =
    let w = c in
    let t = c in
    let l = c.loop-rest in
    let some = c.loop-rest-test.true in
    rw c.later-rest.ensures (
      rest-later _ l.rest l.invariant.0 some,
      w.with_server-all.ensures ∙ rw w.least-y.ensures (users-more _ _ _ _ l.rest l.invariant.0 some _ l.all l.invariant.1),
    )

returns : tie.Need-returns invariant-loop decreases-loop
returns c = let l = c.loop-rest in l.invariant.1 ∙ users-end _ _ _ _ _ l.rest c.loop-rest-test.false

pub with_user_spec : {M : Type 1} → statement M
with_user_spec =
    tie.close
    (tie.spec
    invariant-loop decreases-loop (λ c κs. search rules) loop-holds (λ c κs. search rules) sub-with-server (λ c κs. search rules)
    (λ c κs. search rules) loop-less loop-again returns)
