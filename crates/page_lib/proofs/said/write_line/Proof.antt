use borrow.Author.Rules.{rules}
use Rattle.page_lib.proofs.said.write_line.Statement.{statement}
use Rattle.page_lib.proofs.said.write_line.Tie as tie

pub write_line_spec : {M : Type 1} → statement M
write_line_spec =
    tie.close
    (tie.spec
    (λ c κs. search rules) (λ c κs. search rules) (λ c. search rules) (λ c. rw c.line_at-line.ensures at c.write_key.ensures))
