use Prim.Native.Nat.{ℕ, ◌*◌, ◌+◌, ◌≤◌}
use mathlib.Core.List.{List}
use mathlib.Core.Path.{◌≡◌}
use native.Mathlib.Omega.{arith}
use lib.ListN.{get_or}
use Rattle.sets.specs.Mask.{member}
use Rattle.sets.proofs.Tally.{tally-le}
use Rattle.aeolus_model.specs.Words.{configuration_in}
use Rattle.aeolus_rules_spec.proofs.Bindings.{size}
use Rattle.aeolus_step.proofs.Rows.{sizes-more, sizes-none-more}
use Rattle.aeolus_step.proofs.checks.rows_size.Goals as goal

-- a row has no more than 32
row-size : (ws : List ℕ) (n : ℕ) → size (get_or (configuration_in ws).bound n 0) ≤ 32
row-size ws n = tally-le 32 (λ y. member y (get_or (configuration_in ws).bound n 0))

pub returns-then-joined_rows-eq0 : goal.returns-then-joined_rows-eq0
returns-then-joined_rows-eq0 c = (omega arith, sizes-none-more c.args.deployed.now c.args.z 16 (omega arith) (c.joined_rows.ensures c.if-joined_rows-eq0.true))

pub loop-j-init : goal.loop-j-init
loop-j-init c =
    let e : c.args.z * 16 + 0 ≡ c.args.z * 16 = omega arith in
    (omega arith, rw e (omega arith))

pub overflow_add-n : goal.overflow_add-n
overflow_add-n c = omega (arith, c.loop-j.invariant, c.row_size-n.ensures, row-size c.args.deployed.now (c.args.z * 16 + c.loop-j.j))

pub loop-j-preserved : goal.loop-j-preserved
loop-j-preserved c =
    let l = c.loop-j in
    let more = sizes-more c.args.deployed.now c.args.z l.j (omega arith) in
    let most = row-size c.args.deployed.now (c.args.z * 16 + l.j) in
    (omega (arith, l.invariant, c.row_size-n.ensures), omega (arith, l.invariant, c.row_size-n.ensures))

pub returns : goal.returns
returns c = let l = c.loop-j in let e : l.j ≡ 16 = omega arith in (omega (arith, l.invariant), rw e at l.invariant.1)
