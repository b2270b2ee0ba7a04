use Rattle.sitting_lib.proofs.Parts.{print-taken}
use Rattle.sitting_lib.proofs.write_print.Goals as goal

pub returns : goal.returns
returns c = rw (print-taken _ _ _ _ c.print-used.ensures.prints.used-is c.print-used.ensures.prints.array-is) at c.write_key.ensures
