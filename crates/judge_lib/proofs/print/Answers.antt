use Rattle.std.proofs.Common.{rules}
use Rattle.judge_lib.proofs.Printed.{shown-prints}
use Rattle.judge_lib.proofs.print.Goals as goal

pub returns : goal.returns
returns c =
    let h = shown-prints _ _ _ (search rules) c.judge-verdict.ensures c.fault_or_report.ensures in
    record { prints = h.0; counts = h.1 }
