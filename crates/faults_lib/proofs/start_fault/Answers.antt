use Rattle.faults_lib.proofs.Told.{at-start, elsewhere}
use Rattle.faults_lib.proofs.start_fault.Goals as goal

pub returns-in-Start : goal.returns-in-Start
returns-in-Start c = at-start _ _ c.paper_fault-fault.ensures c.in-Start.is

pub returns-in_default : goal.returns-in_default
returns-in_default c = rw c.no_fault.ensures (elsewhere _ _ c.paper_fault-fault.ensures c.in_default.not-Start)
