use Rattle.words.proofs.InTexts.{begun-slot-put}
use borrow.Author.Rules.{rules}
use Rattle.words.proofs.begun.put_begun_slot.Statement.{statement}
use Rattle.words.proofs.begun.put_begun_slot.Tie as tie

returns : tie.Need-returns
returns c = rw c.put_row.ensures (begun-slot-put _ _ _ c.put_row-arg-1.given.0.1)

pub put_begun_slot_spec : {M : Type 1} → statement M
put_begun_slot_spec = tie.close (tie.spec
    (λ c. search rules) (λ c κs. search rules) returns)
