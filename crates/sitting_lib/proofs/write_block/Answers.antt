use Rattle.std.proofs.Common.{rules}
use Rattle.write_items.proofs.Laws.{then}
use Rattle.sitting_spec.specs.Block.{block_text}
use Rattle.sitting_lib.proofs.Ends.{answer-ends}
use Rattle.sitting_lib.proofs.write_block.Goals as goal

pub returns : goal.returns
unfolding block_text
returns c =
    let told = c.outcome-told.ensures in
    let line = rw (c.line_number.ensures, c.less.ensures) at c.less-line.ensures in
    let same = answer-ends c.judge_and_place-judged.ensures (search rules) told.outcome told.program line c.asks_more-asked.ensures in
    then c.write_print-a.ensures (rw same at (then c.write_told-b.ensures c.write_asked.ensures))
