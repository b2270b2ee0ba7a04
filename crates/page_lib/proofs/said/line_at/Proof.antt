use Rattle.page_lib.proofs.FirstBytes.{line-held}
use borrow.Author.Rules.{rules}
use Rattle.page_lib.proofs.said.line_at.Statement.{statement}
use Rattle.page_lib.proofs.said.line_at.Tie as tie

returns : tie.Need-returns
returns c =
    let size = c in
    let start = c in
    let x = c.args in
    line-held x.text.now x.n start.line_start-start.result size.smaller-size.result start.line_start-start.ensures
    (rw size.line_size.ensures at size.smaller-size.ensures.0) c.part_of.ensures.holds

pub line_at_spec : {M : Type 1} → statement M
line_at_spec =
    tie.close
    (tie.spec
    (λ c κs. search rules) (λ c κs. search rules) (λ c κs. search rules) (λ c κs. search rules) returns)
