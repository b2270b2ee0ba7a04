use native.Mathlib.Omega.{arith}
use borrow.Author.Rules.{rules}
use Rattle.read_lines.proofs.Place.{size-lf, size-more, size-over}
use Rattle.read_lines.proofs.line_size.Goals as goal

pub returns-then-s-i-eq10 : goal.returns-then-s-i-eq10
returns-then-s-i-eq10 c = omega (arith, c.loop-i.invariant, size-lf c.args.s.now c.loop-i.i (search rules) c.if-s-i-eq10.true)

pub loop-i-preserved : goal.loop-i-preserved
loop-i-preserved c = omega (arith, c.loop-i.invariant, c.loop-i.auto.i, size-more c.args.s.now c.loop-i.i (search rules) c.if-s-i-eq10.false)

pub returns : goal.returns
returns c =
    let i = c.loop-i in
    omega (arith, i.invariant, i.auto.i, size-over c.args.s.now i.i c.loop-i-test.false, c.place_in-from.ensures)
