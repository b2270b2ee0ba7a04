use Rattle.std.proofs.Common.{arith, refl, sym, ◌∙◌, drop}
use Rattle.program_input.specs.Last.{last_part}
use Rattle.program_input.proofs.Laws.{last-anew, last_on, last-over}
use Rattle.program_input.proofs.base_from.Goals as goal
use Rattle.program_input.proofs.base_from.Goals.{then-byte-eq-SLASH, else-byte-eq-SLASH}

pub loop-i-init : goal.loop-i-init
unfolding last_part
loop-i-init c = (omega arith, refl)

-- a slash: the last part begins anew past it
pub loop-i-preserved : goal.loop-i-preserved
loop-i-preserved c =
    let l = c.loop-i in
    let s = c.args.path.now in
    elim c.if-byte-eq-SLASH.branch [
      | then-byte-eq-SLASH w ↦
          (omega arith, rw w.from-is (sym (last-anew (drop l.from s) s l.i c.loop-i-test.true w.if-byte-eq-SLASH.true) ∙ l.invariant.1))
      | else-byte-eq-SLASH w ↦
          (omega arith, rw w.from-is (sym (last_on (drop l.from s) s l.i c.loop-i-test.true w.if-byte-eq-SLASH.false) ∙ l.invariant.1))
    ]

pub returns-clause-last : goal.returns-clause-last
returns-clause-last c =
    let l = c.loop-i in
    let s = c.args.path.now in
    sym (last-over (drop l.from s) s l.i c.loop-i-test.false) ∙ l.invariant.1
