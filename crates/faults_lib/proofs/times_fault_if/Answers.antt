use Rattle.faults_lib.proofs.times_fault_if.Goals as goal

pub returns-in-Some : goal.returns-in-Some
returns-in-Some c = rw c.in-Some.is c.times_fault.ensures

pub returns-in-None : goal.returns-in-None
returns-in-None c = rw c.in-None.is c.no_fault.ensures
