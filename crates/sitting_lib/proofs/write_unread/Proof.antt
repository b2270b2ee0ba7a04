use Rattle.write_items.proofs.Laws.{then}
use Rattle.sitting_spec.specs.Candidate.{unread_text}
use borrow.Author.Rules.{rules}
use Rattle.sitting_lib.proofs.write_unread.Statement.{statement}
use Rattle.sitting_lib.proofs.write_unread.Tie as tie

returns : tie.Need-returns
unfolding unread_text
returns c = then c.write_name-at.ensures c.write_key.ensures

pub write_unread_spec : {M : Type 1} → statement M
write_unread_spec = tie.close (tie.spec
    (λ c κs. search rules) (λ c κs. search rules) (λ c. search rules) returns)
