use Rattle.read_sheet.proofs.Forms.{counted-run, counted-few}
use Rattle.read_sheet.proofs.filled.read_counted.Goals as goal

pub returns-clause-reads : goal.returns-clause-reads
returns-clause-reads c =
    let a = c.args in
    rw c.counted_run.ensures
    (counted-run a.all a.key.now a.text.now c.place_in-at.result a.start c.lines_with-count.result a.least a.greatest c.place_in-at.ensures c.lines_with-count.ensures)

pub returns-clause-few : goal.returns-clause-few
returns-clause-few c =
    rw c.counted_run.ensures (counted-few c.place_in-at.result c.lines_with-count.result c.args.least c.args.greatest)
