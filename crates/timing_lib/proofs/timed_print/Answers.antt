use Rattle.std.proofs.Common.{rules, arith, ap}
use mathlib.Core.Logic.{⊎_elim, inl, inr}
use Rattle.judge_spec.specs.declared.Verdict.{Verdict}
use Rattle.timing_spec.specs.declared.Timed.{Timed}
use Rattle.timing_lib.proofs.Printed.{report-prints, lines-print}
use Rattle.timing_lib.proofs.timed_print.Goals as goal

abbrev verdict_of : Timed → Verdict
verdict_of t = t.verdict

pub returns-in-50 : goal.returns-in-50
returns-in-50 c =
    let e = c.timed-ended.ensures in
    let h = lines-print _ _ _ _ (search rules) (ap verdict_of e.verdict-is) e.buffer-is (inl (inr c.in-50.is)) c.write_fault.ensures in
    record { print = h.0; counts = h.1 }

pub returns-in-1-to-5 : goal.returns-in-1-to-5
returns-in-1-to-5 c =
    let e = c.timed-ended.ensures in
    let h = lines-print _ _ _ _ (search rules) (ap verdict_of e.verdict-is) e.buffer-is (inl (inl (omega arith, omega arith))) c.write_fault-in-1-to-5.ensures in
    record { print = h.0; counts = h.1 }

pub returns-in-40-to-42 : goal.returns-in-40-to-42
returns-in-40-to-42 c =
    let e = c.timed-ended.ensures in
    let h = lines-print _ _ _ _ (search rules) (ap verdict_of e.verdict-is) e.buffer-is (inr (omega arith, omega arith)) c.write_fault-in-40-to-42.ensures in
    record { print = h.0; counts = h.1 }

pub returns-in_default : goal.returns-in_default
returns-in_default c =
    let e = c.timed-ended.ensures in
    let h = report-prints _ _ _ _ (search rules) (ap verdict_of e.verdict-is) e.buffer-is (⊎_elim (⊎_elim (λ l. omega arith) (λ l. omega arith)) (λ l. omega arith)) in
    record { print = h.0; counts = h.1 }

pub returns-in_default-2 : goal.returns-in_default-2
returns-in_default-2 c =
    let e = c.timed-ended.ensures in
    let h = report-prints _ _ _ _ (search rules) (ap verdict_of e.verdict-is) e.buffer-is (⊎_elim (⊎_elim (λ l. omega arith) (λ l. omega arith)) (λ l. omega arith)) in
    record { print = h.0; counts = h.1 }

pub returns-in_default-3 : goal.returns-in_default-3
returns-in_default-3 c =
    let e = c.timed-ended.ensures in
    let h = report-prints _ _ _ _ (search rules) (ap verdict_of e.verdict-is) e.buffer-is (⊎_elim (⊎_elim (λ l. omega arith) (λ l. omega arith)) (λ l. omega arith)) in
    record { print = h.0; counts = h.1 }
