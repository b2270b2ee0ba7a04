use Rattle.read_items.proofs.Laws.{from_end}
use borrow.Author.Rules.{rules}
use Rattle.sitting_lib.proofs.lines.show_first.Statement.{statement}
use Rattle.sitting_lib.proofs.lines.show_first.Tie as tie

returns : tie.Need-returns
returns c = rw (rw from_end at c.part_of.ensures.holds) at c.show.ensures

pub show_first_spec : {M : Type 1} → statement M
show_first_spec = tie.close (tie.spec
    (λ c κs. search rules) (λ c κs. search rules) (λ c. search rules) returns)
