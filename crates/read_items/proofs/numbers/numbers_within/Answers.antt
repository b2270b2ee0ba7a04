use Prim.Native.Nat.{◌+◌, ◌-◌}
use mathlib.Core.Path.{◌≡◌, sym, ◌∙◌}
use native.Mathlib.Omega.{arith}
use Rattle.read_items.proofs.Within.{left-fault, left_less, left-none, left-beyond, held_reads}
use Rattle.read_items.proofs.numbers.numbers_within.Goals as goal

pub returns-in_default : goal.returns-in_default
returns-in_default c =
    held_reads _ c.args.limits _ c.held_by-held.ensures (left-fault _ _ _ _ _ _ _ _ c.loop-k.invariant (omega arith) (rw c.end_of.ensures at c.in_default.ensures))

pub loop-k-preserved : goal.loop-k-preserved
loop-k-preserved c =
    let e : c.held_by-held.result.count - c.loop-k.k - 1 ≡ c.held_by-held.result.count - (c.loop-k.k + 1) = omega arith in
    rw e at (left_less _ _ _ _ _ _ _ _ c.loop-k.invariant (omega arith) (rw c.end_of.ensures at c.in-Some.ensures))

pub returns-then-within : goal.returns-then-within
returns-then-within c =
    held_reads _ c.args.limits _ c.held_by-held.ensures
    (left-none _ _ _ _ _ _ _ _ c.loop-k.invariant (omega arith) (sym c.within.ensures ∙ c.if-within.true))

pub returns : goal.returns
returns c =
    held_reads _ c.args.limits _ c.held_by-held.ensures
    (left-beyond _ _ _ _ _ _ _ _ c.loop-k.invariant (omega arith) (sym c.within.ensures ∙ c.if-within.false))
