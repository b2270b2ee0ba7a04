use borrow.Author.Rules.{rules}
use Rattle.read_start.proofs.rows.held_ok.Statement.{statement}
use Rattle.read_start.proofs.rows.held_ok.Tie as tie

returns : tie.Need-returns
returns c = rw (c.overlaps.ensures, c.within-inside.ensures, c.joined.ensures, c.head_of-head.ensures)

pub held_ok_spec : {M : Type 1} → statement M
held_ok_spec = tie.close (tie.spec
    (λ c κs. search rules) (λ c κs. search rules) (λ c κs. search rules) (λ c. search rules) (λ c κs. search rules) returns)
