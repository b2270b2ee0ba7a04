use Rattle.aeolus_model.proofs.Puts.{kind-put}
use borrow.Author.Rules.{rules}
use Rattle.aeolus_model.proofs.put_kind.Statement.{statement}
use Rattle.aeolus_model.proofs.put_kind.Tie as tie

returns : tie.Need-returns
returns c = rw c.put_in_area.ensures (kind-put _ c.put_in_area-arg-1.given.0.1 _ _)

pub put_kind_spec : {M : Type 1} → statement M
put_kind_spec = tie.close (tie.spec
    (λ c κs. search rules) returns)
