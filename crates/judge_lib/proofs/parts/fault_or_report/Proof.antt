use mathlib.Core.Path.{refl}
use mathlib.Core.Logic.{⊎_elim, inl, inr}
use native.Mathlib.Omega.{arith}
use borrow.Author.Rules.{rules}
use Rattle.judge_lib.proofs.parts.fault_or_report.Statement.{statement}
use Rattle.judge_lib.proofs.parts.fault_or_report.Tie as tie

returns : tie.Need-returns-in-50
returns c = record { three-lines = λ h. c.write_fault.ensures; the-report = λ h. absurd (h (inr c.in-50.is)) }

returns-2 : tie.Need-returns-in-1-to-5
returns-2 c = record { three-lines = λ h. c.write_fault-in-1-to-5.ensures; the-report = λ h. absurd (h (inl (omega arith, omega arith))) }

returns-3 : tie.Need-returns-in_default
returns-3 c = record { three-lines = λ h. absurd (⊎_elim (λ z. omega (arith, z, c.in_default.if-refused-lt1-own.true)) c.in_default.in_default-own.rest.1 h); the-report = λ h. (refl, refl) }

returns-4 : tie.Need-returns-in_default-2
returns-4 c = record { three-lines = λ h. absurd (⊎_elim (λ z. omega (arith, z, c.in_default.if-refused-lt6-own.false)) c.in_default.in_default-own.rest.1 h); the-report = λ h. (refl, refl) }

pub fault_or_report_spec : {M : Type 1} → statement M
fault_or_report_spec =
    tie.close
    (tie.spec
    (λ c κs. search rules) (λ c κs. search rules) (λ c. search rules) returns (λ c. search rules) returns-2 returns-3 returns-4)
