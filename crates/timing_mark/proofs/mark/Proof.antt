use Prim.Native.Nat.{◌+◌, ◌-◌, ◌*◌, ◌<◌}
use native.Mathlib.Nat.{div-eq_of_lt}
use native.Mathlib.Omega.{arith}
use borrow.Author.Rules.{rules}
use borrow.Author.Tests.{eq-eqb, ne_eqb}
use Rattle.timing_spec.specs.Mark.{mark_of, nearest}
use Rattle.timing_mark.proofs.mark.Statement.{statement}
use Rattle.timing_mark.proofs.mark.Tie as tie

returns : tie.Need-returns-then-clock-eq0
unfolding mark_of
returns c = rw (eq-eqb _ _ c.if-clock-eq0.true)

returns-2 : tie.Need-returns-then-clock-ge-PAST_EVERY_PAR
unfolding mark_of nearest
returns-2 c =
    let a = c.args in
    let far : 2000 * a.par + a.clock - 1 < 2 * a.clock = omega (arith, c.if-clock-ge-PAST_EVERY_PAR.true, c.ranges.par.fits) in
    rw (ne_eqb _ _ c.if-clock-eq0.false, div-eq_of_lt far)

returns-3 : tie.Need-returns
unfolding mark_of nearest
returns-3 c = rw (ne_eqb _ _ c.if-clock-eq0.false) c.smaller.ensures.0

pub mark_spec : {M : Type 1} → statement M
mark_spec =
    tie.close
    (tie.spec
    returns returns-2 (λ c. search rules) (λ c. search rules) (λ c. search rules) (λ c. search rules) (λ c. search rules) (λ c κs. search rules)
    returns-3)
