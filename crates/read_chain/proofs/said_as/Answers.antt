use mathlib.Core.Path.{refl}
use Rattle.read_chain.proofs.said_as.Goals as goal

pub returns-in-Err : goal.returns-in-Err
returns-in-Err g c = rw c.in-Err.is (record { refusal = c.from.result; at = c.in-Err.fault.at }, refl, c.from.ensures, refl)
