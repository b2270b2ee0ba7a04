use Rattle.page_spec.specs.Line.{line_count}
use borrow.Author.Rules.{rules}
use Rattle.page_lib.proofs.lines.line_count.Statement.{statement}
use Rattle.page_lib.proofs.lines.line_count.Tie as tie

pub line_count_spec : {M : Type 1} → statement M
unfolding line_count
line_count_spec =
    tie.close
    (tie.spec
    (λ c κs. search rules) (λ c. c.line_number.ensures))
