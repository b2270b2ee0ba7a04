use borrow.Author.Rules.{rules}
use Rattle.passlist_spec.specs.Listed.{counted}
use Rattle.passlist_lib.proofs.count_line.Statement.{statement}
use Rattle.passlist_lib.proofs.count_line.Tie as tie

returns : tie.Need-returns
unfolding counted
returns c = rw (← c.line_standing.ensures, ← c.place_of-k.ensures.0, ← c.sum_of.ensures)

pub count_line_spec : {M : Type 1} → statement M
count_line_spec =
    tie.close
    (tie.spec
    (λ c κs. search rules) (λ c κs. search rules) (λ c. search rules) (λ c. search rules) (λ c κs. search rules) (λ c. search rules)
    (λ c. search rules) returns)
