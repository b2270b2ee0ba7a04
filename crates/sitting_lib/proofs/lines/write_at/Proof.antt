use borrow.Author.Rules.{rules}
use Rattle.sitting_lib.proofs.lines.write_at.Statement.{statement}
use Rattle.sitting_lib.proofs.lines.write_at.Tie as tie

returns : tie.Need-returns-then-pointed
returns c = rw c.if-pointed.true (rw c.line_number.ensures at c.write_number.ensures)

returns-2 : tie.Need-returns
returns-2 c = rw c.if-pointed.false c.write_key.ensures

pub write_at_spec : {M : Type 1} → statement M
write_at_spec = tie.close (tie.spec
    (λ c κs. search rules) (λ c κs. search rules) (λ c. search rules) returns (λ c κs. search rules) (λ c. search rules) returns-2)
