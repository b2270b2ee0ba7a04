use Rattle.faults_spec.specs.Faults.{sheet_fault}
use Rattle.faults_lib.proofs.sheet_fault.Goals as goal

pub returns : goal.returns
unfolding sheet_fault
returns c = c.paper_fault.ensures
