use borrow.Author.Rules.{rules}
use Rattle.passlist_spec.specs.Listed.{candidates}
use Rattle.passlist_lib.proofs.candidates_of.Statement.{statement}
use Rattle.passlist_lib.proofs.candidates_of.Tie as tie

returns : tie.Need-returns
unfolding candidates
returns c = rw (c.sum_of.ensures, c.sum_of-d.ensures, c.sum_of-c.ensures, c.sum_of-b.ensures, c.sum_of-a.ensures)

pub candidates_of_spec : {M : Type 1} → statement M
candidates_of_spec =
    tie.close
    (tie.spec
    (λ c. search rules) (λ c. search rules) (λ c κs. search rules) (λ c. search rules) (λ c κs. search rules) (λ c. search rules)
    (λ c κs. search rules) (λ c. search rules) (λ c κs. search rules) (λ c. search rules) (λ c κs. search rules) returns)
