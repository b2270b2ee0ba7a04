use Rattle.std.proofs.Common.{rules, sym, ◌++◌}
use Rattle.faults_spec.specs.Faults.{found_text, faults_text}
use Rattle.faults_lib.proofs.Told.{prints-so, all_short}
use Rattle.faults_lib.proofs.faults_print.Goals as goal

pub returns : goal.returns
unfolding faults_text
returns c =
    let sheet = c.sheet_fault-in_sheet in
    let start = c.start_fault-in_start in
    let times = c.times_fault_if-in_times in
    let w =
    prints-so _ _ _ _ _ _ _ (sym (λ i. found_text (sheet.ensures i) ++ found_text (start.ensures i) ++ found_text (times.ensures i)))
    (all_short sheet.result start.result times.result) (search rules) c.write_faults.ensures in
    record { prints = (w.0, w.1); counts = w.2 }
