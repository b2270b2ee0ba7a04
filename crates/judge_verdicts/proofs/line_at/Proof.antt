use borrow.Author.Rules.{rules}
use Rattle.judge_verdicts.proofs.line_at.Statement.{statement}
use Rattle.judge_verdicts.proofs.line_at.Tie as tie

line-size-requires : tie.Need-line_size-size-requires
line-size-requires c κs = search rules

returns : tie.Need-returns
returns c = rw c.line_size-size.ensures

pub line_at_spec : {M : Type 1} → statement M
line_at_spec = tie.close (tie.spec
    line-size-requires returns)
