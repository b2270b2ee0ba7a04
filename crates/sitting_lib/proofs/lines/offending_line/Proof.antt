use Rattle.read_items.proofs.Laws.{from_end}
use borrow.Author.Rules.{rules}
use Rattle.sitting_lib.proofs.lines.offending_line.Statement.{statement}
use Rattle.sitting_lib.proofs.lines.offending_line.Tie as tie

returns : tie.Need-returns-then-pointed
returns c = rw c.if-pointed.true (rw from_end at c.part_of.ensures.holds)

pub offending_line_spec : {M : Type 1} → statement M
offending_line_spec = tie.close (tie.spec
    (λ c κs. search rules) returns (λ c κs. search rules) (λ c. search rules))
