use mathlib.Core.Logic.{inl, inr, by_cases}
use native.Mathlib.Omega.{arith}
use native.Mathlib.Decide.{dec_lt}
use Rattle.aeolus_write_report.proofs.Names.{next-none, next_more, next-less}
use Rattle.aeolus_write_report.proofs.next_name.Goals as goal

pub loop-z-init : goal.loop-z-init
loop-z-init c = next-none (λ y i p. omega (arith, p.0))

pub loop-z-preserved : goal.loop-z-preserved
loop-z-preserved c =
    let l = c.loop-z in
    next_more l.invariant c.next_of-next.ensures (λ y i p. by_cases (dec_lt y l.z) (λ h. inl (h, p.1)) (λ h. inr (omega (arith, p.0), p.1)))

pub returns : goal.returns
returns c = next-less c.loop-z.invariant (λ y i p. (omega (arith, p.0), p.1))
