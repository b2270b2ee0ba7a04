use Rattle.page_spec.specs.Line.{line_of}
use borrow.Author.Rules.{rules}
use Rattle.page_lib.proofs.lines.size_of.Statement.{statement}
use Rattle.page_lib.proofs.lines.size_of.Tie as tie

pub size_of_spec : {M : Type 1} → statement M
unfolding line_of
size_of_spec =
    tie.close
    (tie.spec
    (λ c κs. search rules) (λ c κs. search rules) (λ c. rw c.line_start.ensures at c.line_size.ensures))
