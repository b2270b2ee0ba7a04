use Rattle.read_items.proofs.Laws.{from_end}
use Rattle.sitting_lib.proofs.Parts.{line_taken}
use borrow.Author.Rules.{rules}
use Rattle.sitting_lib.proofs.line_of.Statement.{statement}
use Rattle.sitting_lib.proofs.line_of.Tie as tie

returns : tie.Need-returns
returns c = rw (from_end, c.line_size-size.ensures, line_taken, c.line_start-start.ensures, c.less.ensures) at c.part_of.ensures.holds

pub line_of_spec : {M : Type 1} → statement M
line_of_spec = tie.close (tie.spec
    (λ c κs. search rules) (λ c κs. search rules) (λ c κs. search rules) (λ c κs. search rules) returns)
