use Prim.Native.Nat.{◌*◌, ◌+◌}
use mathlib.Core.Path.{◌≡◌, sym, ◌∙◌}
use native.Mathlib.Omega.{arith}
use Rattle.aeolus_model.specs.Words.{configuration_in}
use Rattle.aeolus_step.proofs.Rows.{sizes-start, sizes-all}
use Rattle.aeolus_step.proofs.checks.bindings.Goals as goal

pub loop-z-init : goal.loop-z-init
loop-z-init c = (omega arith, sizes-start (configuration_in c.args.deployed.now).bound)

pub overflow_add-n : goal.overflow_add-n
overflow_add-n c = omega (arith, c.loop-z.invariant, c.rows_size-n.ensures.0)

pub loop-z-preserved : goal.loop-z-preserved
loop-z-preserved c =
    let l = c.loop-z in
    let e : (l.z + 1) * 16 ≡ l.z * 16 + 16 = omega arith in
    (omega (arith, l.invariant, c.rows_size-n.ensures.0), rw (l.invariant.1, e) (sym c.rows_size-n.ensures.1))

pub returns : goal.returns
returns c =
    let e : c.loop-z.z * 16 ≡ 512 = omega arith in
    (rw e at c.loop-z.invariant.1) ∙ sizes-all c.args.deployed.now
