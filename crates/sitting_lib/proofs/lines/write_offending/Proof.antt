use Rattle.write_items.proofs.Laws.{then}
use Rattle.sitting_spec.specs.End.{offending_text}
use borrow.Author.Rules.{rules}
use Rattle.sitting_lib.proofs.lines.write_offending.Statement.{statement}
use Rattle.sitting_lib.proofs.lines.write_offending.Tie as tie

returns : tie.Need-returns
unfolding offending_text
returns c =
    let line = c.offending_line-line.ensures in
    let shows = then c.write_key-a.ensures (rw line at c.show_first-b.ensures) in
    let ends = then (then shows c.write_key-c.ensures) c.write_ended-d.ensures in
    then (then ends c.write_key-e.ensures) (rw (c.less.ensures, line) at c.write_number.ensures)

pub write_offending_spec : {M : Type 1} → statement M
write_offending_spec = tie.close (tie.spec
    (λ c κs. search rules) (λ c κs. search rules) (λ c κs. search rules) (λ c κs. search rules) (λ c κs. search rules) (λ c κs. search rules)
    (λ c κs. search rules) (λ c κs. search rules) (λ c. search rules) returns)
