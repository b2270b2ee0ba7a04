use Rattle.words.proofs.InState.{slot-put}
use borrow.Author.Rules.{rules}
use Rattle.words.proofs.state.put_slot.Statement.{statement}
use Rattle.words.proofs.state.put_slot.Tie as tie

returns : tie.Need-returns
returns c = rw c.put_row.ensures (slot-put _ c.put_row-arg-1.given.0.1 _ _)

pub put_slot_spec : {M : Type 1} → statement M
put_slot_spec = tie.close (tie.spec
    (λ c. search rules) (λ c κs. search rules) returns)
