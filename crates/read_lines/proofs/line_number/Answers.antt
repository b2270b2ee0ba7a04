use Prim.Native.Nat.{suc}
use mathlib.Core.Path.{◌≡◌, ap, ◌∙◌}
use native.Mathlib.Omega.{arith}
use lib.ListN.{take, length-take}
use lib.Seq.{take_all}
use borrow.Author.Rules.{rules}
use Rattle.read_spec.specs.Place.{lfs}
use Rattle.read_lines.proofs.Place.{lfs-few, lfs-more, lfs-same, number_is}
use Rattle.read_lines.proofs.line_number.Goals.{then-byte-eq10, else-byte-eq10}
use Rattle.read_lines.proofs.line_number.Goals as goal

pub loop-byte-init : goal.loop-byte-init
unfolding lfs
loop-byte-init c = omega arith

pub overflow_add-number : goal.overflow_add-number
overflow_add-number c =
    let b = take c.place_in.result c.args.s.now in
    omega (arith, c.loop-byte.invariant, lfs-few (take c.loop-byte.byte-index b), length-take c.loop-byte.byte-index b, length-take c.place_in.result c.args.s.now)

pub loop-byte-preserved : goal.loop-byte-preserved
loop-byte-preserved c =
    let l = c.loop-byte in
    let b = take c.place_in.result c.args.s.now in
    elim c.if-byte-eq10.branch [
      | then-byte-eq10 w ↦ omega (arith, l.invariant, w.number-is, lfs-more b l.byte-index (search rules) w.if-byte-eq10.true)
      | else-byte-eq10 w ↦ omega (arith, l.invariant, w.number-is, lfs-same b l.byte-index (search rules) w.if-byte-eq10.false)
    ]

pub returns : goal.returns
returns c =
    let l = c.loop-byte in
    let s = c.args.s.now in
    let p = c.place_in.result in
    let e : take l.byte-index (take p s) ≡ take p s = take_all _ _ (omega (arith, c.loop-byte-test.false)) in
    l.invariant ∙ ap (λ k. suc (lfs k)) e ∙ ap (λ k. suc (lfs (take k s))) c.place_in.ensures ∙ number_is s c.args.at
