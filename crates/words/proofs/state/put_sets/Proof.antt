use Rattle.words.proofs.InState.{sets-put}
use borrow.Author.Rules.{rules}
use Rattle.words.proofs.state.put_sets.Statement.{statement}
use Rattle.words.proofs.state.put_sets.Tie as tie

returns : tie.Need-returns
returns c = rw c.put_row.ensures (sets-put _ _ c.put_row-arg-1.given.0.1 _ _ _)

pub put_sets_spec : {M : Type 1} → statement M
put_sets_spec = tie.close (tie.spec
    (λ c. search rules) (λ c κs. search rules) returns)
