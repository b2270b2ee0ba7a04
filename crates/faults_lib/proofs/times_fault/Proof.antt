use Rattle.judge_spec.specs.Judged.{after_fault}
use Rattle.faults_lib.proofs.Told.{times-told}
use borrow.Author.Rules.{rules}
use Rattle.faults_lib.proofs.times_fault.Statement.{statement}
use Rattle.faults_lib.proofs.times_fault.Tie as tie

returns : tie.Need-returns-then-n-eq0
returns c = rw c.no_fault.ensures ((times-told _ c.read_times-read.ensures).none c.if-n-eq0.true)

returns-2 : tie.Need-returns
unfolding after_fault
returns-2 c =
    rw (c.times_number.ensures, c.after_fault-fault.ensures) ((times-told _ c.read_times-read.ensures).some c.if-n-eq0.false)

pub times_fault_spec : {M : Type 1} → statement M
times_fault_spec =
    tie.close (tie.spec
    (λ c κs. search rules) (λ c κs. search rules) returns (λ c κs. search rules) (λ c κs. search rules) returns-2)
