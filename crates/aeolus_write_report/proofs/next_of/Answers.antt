use mathlib.Core.Path.{sym, ◌∙◌}
use mathlib.Core.Bool.{true≢false}
use mathlib.Core.Logic.{inl, inr, by_cases}
use native.Mathlib.Omega.{arith}
use native.Mathlib.Decide.{dec_lt}
use Rattle.aeolus_write_report.proofs.Names.{next-none, next_more, next-less}
use Rattle.aeolus_write_report.proofs.next_of.Goals as goal

pub returns-then-not-is_deployed : goal.returns-then-not-is_deployed
returns-then-not-is_deployed c =
    let off = sym c.is_deployed.ensures ∙ c.if-not-is_deployed.true in
    next-none (λ y i p. true≢false (sym p.1.0 ∙ (rw p.0 off)))

pub loop-j-init : goal.loop-j-init
loop-j-init c = next-none (λ y i p. omega (arith, p.1))

pub loop-j-preserved : goal.loop-j-preserved
loop-j-preserved c =
    let l = c.loop-j in
    next_more l.invariant c.nearer-next.ensures (λ y i p. by_cases (dec_lt i l.j) (λ h. inl (p.0, h)) (λ h. inr (p.0, omega (arith, p.1))))

pub returns : goal.returns
returns c =
    let most = rw c.kind_of.ensures at c.interfaces_of-most.ensures in
    next-less c.loop-j.invariant (λ y i p. let below = rw p.0 at p.1.1 in (p.0, omega (arith, most, below)))
