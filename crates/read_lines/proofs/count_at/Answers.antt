use lib.ListN.{drop}
use Rattle.read_lines.proofs.Lines.{count-limit}
use Rattle.read_lines.proofs.count_at.Goals as goal

pub returns : goal.returns
returns c =
    let a = c.args in
    count-limit a.limit a.key.now (drop a.at a.text.now) c.range_of-range.ensures c.within_at.ensures
