use borrow.Author.Rules.{rules}
use Rattle.passlist_lib.proofs.standing_by.Statement.{statement}
use Rattle.passlist_lib.proofs.standing_by.Tie as tie

returns : tie.Need-returns-in-Done
returns c = rw c.in-Done.is c.done_standing.ensures

returns-2 : tie.Need-returns-in-Unfinished
returns-2 c = rw c.in-Unfinished.is c.other_standing.ensures

returns-3 : tie.Need-returns-in-Refused
returns-3 c = rw c.in-Refused.is c.other_standing-in-Refused.ensures

returns-4 : tie.Need-returns-in-Fault
returns-4 c = rw c.in-Fault.is c.other_standing-in-Fault.ensures

returns-5 : tie.Need-returns-in-Absent
returns-5 c = rw c.in-Absent.is c.absent_standing.ensures

pub standing_by_spec : {M : Type 1} → statement M
standing_by_spec =
    tie.close
    (tie.spec
    (λ c. search rules) (λ c κs. search rules) (λ c. search rules) (λ c κs. search rules) (λ c. search rules) (λ c κs. search rules)
    (λ c. search rules) (λ c κs. search rules) (λ c. search rules) (λ c κs. search rules) returns returns-2 returns-3 returns-4 returns-5)
