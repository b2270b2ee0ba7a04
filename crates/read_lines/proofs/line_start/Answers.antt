use mathlib.Core.Path.{◌≡◌}
use native.Mathlib.Omega.{arith}
use lib.ListN.{drop}
use borrow.Author.Rules.{rules}
use Rattle.read_spec.specs.Place.{line_start}
use Rattle.read_lines.proofs.Place.{start-here, start-lf, start-more, start-over}
use Rattle.read_lines.proofs.line_start.Goals.{then-byte-eq10, else-byte-eq10}
use Rattle.read_lines.proofs.line_start.Goals as goal

pub returns-then-left-eq0 : goal.returns-then-left-eq0
returns-then-left-eq0 c =
    let l = c.loop-i in
    let s = c.args.s.now in
    let e : line_start l.left (drop l.i s) ≡ 0 = rw c.if-left-eq0.true (start-here (drop l.i s)) in
    omega (arith, l.invariant)

pub loop-i-preserved : goal.loop-i-preserved
loop-i-preserved c =
    let l = c.loop-i in
    let s = c.args.s.now in
    elim c.if-byte-eq10.branch [
      | then-byte-eq10 w ↦ rw w.left-is (omega (arith, l.invariant, start-lf s l.i l.left c.if-left-eq0.false (search rules) w.if-byte-eq10.true))
      | else-byte-eq10 w ↦ rw w.left-is (omega (arith, l.invariant, start-more s l.i l.left c.if-left-eq0.false (search rules) w.if-byte-eq10.false))
    ]

pub returns : goal.returns
returns c = omega (arith, c.loop-i.invariant, start-over c.args.s.now c.loop-i.i c.loop-i.left c.loop-i-test.false)
