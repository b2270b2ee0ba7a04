use mir.Facts.{Fits-le}
use Rattle.judge_verdicts.proofs.Starts.{first-few, starts-add, starts-few}
use borrow.Author.Rules.{rules}
use Rattle.judge_verdicts.proofs.step_start.Statement.{statement}
use Rattle.judge_verdicts.proofs.step_start.Tie as tie

sub-line-start : tie.Need-slice_bounds-line_start-count
sub-line-start c = first-few _ c.line_start-first.ensures

part-line-start-start : tie.Need-slice_bounds-line_start-start
part-line-start-start c = first-few _ c.line_start-first.ensures

add-result : tie.Need-overflow_add-result
add-result c = Fits-le (starts-few _ _ c.line_start-first.ensures c.line_start.ensures) (search rules)

returns : tie.Need-returns
returns c = starts-add _ _ c.line_start-first.ensures c.line_start.ensures

pub step_start_spec : {M : Type 1} → statement M
step_start_spec =
    tie.close
    (tie.spec
    (λ c κs. search rules) sub-line-start part-line-start-start (λ c. search rules) (λ c κs. search rules) add-result returns)
