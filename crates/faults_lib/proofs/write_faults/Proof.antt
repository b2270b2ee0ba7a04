use Rattle.write_items.proofs.Laws.{next, used-fits}
use borrow.Author.Rules.{rules}
use Rattle.faults_lib.proofs.write_faults.Statement.{statement}
use Rattle.faults_lib.proofs.write_faults.Tie as tie

returns : tie.Need-returns
returns c = next (next c.write_found-used.ensures c.write_found-used-2.ensures) c.write_found.ensures

pub write_faults_spec : {M : Type 1} → statement M
write_faults_spec =
    tie.close
    (tie.spec
    (λ c κs. search rules) (λ c. search rules) (λ c. search rules) (λ c. search rules) (λ c κs. search rules) (λ c. search rules) (λ c. search rules)
    (λ c. search rules) (λ c. search rules) (λ c κs. search rules) (λ c. used-fits (returns c) (search rules)) (λ c. search rules) returns)
