use Rattle.passlist_lib.proofs.Laws.{pass-fault, pass-is}
use Rattle.passlist_lib.proofs.read_pass.Goals as goal

pub returns-in_err-mark : goal.returns-in_err-mark
returns-in_err-mark c = rw c.from_residual.ensures (pass-fault c.in_err-mark.ensures)

pub returns-in-Some : goal.returns-in-Some
returns-in-Some c = rw c.in-Some.is at (pass-is c.in_ok-mark.ensures)

pub returns-in-None : goal.returns-in-None
returns-in-None c = rw c.in-None.is at (pass-is c.in_ok-mark.ensures)
