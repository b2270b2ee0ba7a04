use mathlib.Core.Path.{refl}
use native.Mathlib.Omega.{arith}
use borrow.Author.Tests.{eq-eqb, ne_eqb}
use Rattle.read_items.proofs.Laws.{handed_on}
use Rattle.times_spec.specs.View.{with_time}
use Rattle.read_times.specs.Says.{filled}
use Rattle.read_times.proofs.Laws.{no_key, no-numbers, listed-twice, listed-now, pair-few}
use Rattle.read_times.proofs.time_line.Goals as goal

pub returns-in_default : goal.returns-in_default
returns-in_default c par j = no_key _ _ j c.in_default.ensures

pub returns-in_err-n : goal.returns-in_err-n
returns-in_err-n c par j = rw (handed_on _ c.from_residual.ensures.1) (no-numbers _ _ j c.in-Some.ensures c.in_err-n.ensures)

pub overflow_mul-slot : goal.overflow_mul-slot
overflow_mul-slot c = omega (arith, pair-few c.args.s.now c.in-Some.i c.in_ok-n.ensures)

pub overflow_add-slot : goal.overflow_add-slot
overflow_add-slot c = omega (arith, pair-few c.args.s.now c.in-Some.i c.in_ok-n.ensures)

pub bounds-listed-slot : goal.bounds-listed-slot
bounds-listed-slot c = omega (arith, pair-few c.args.s.now c.in-Some.i c.in_ok-n.ensures)

pub returns-then-twice : goal.returns-then-twice
returns-then-twice c par j = listed-twice _ _ j c.in-Some.ensures c.in_ok-n.ensures (eq-eqb _ _ c.if-twice.true)

pub bounds-listed-slot-2 : goal.bounds-listed-slot-2
bounds-listed-slot-2 c = omega (arith, pair-few c.args.s.now c.in-Some.i c.in_ok-n.ensures)

pub bounds-seconds-slot : goal.bounds-seconds-slot
bounds-seconds-slot c = omega (arith, pair-few c.args.s.now c.in-Some.i c.in_ok-n.ensures)

pub returns : goal.returns
unfolding with_time
returns c par j =
    let a = c.args in
    listed-now a.s.now (filled par a.listed.now a.seconds.now) j c.in-Some.ensures c.in_ok-n.ensures (ne_eqb _ _ c.if-twice.false) refl
