use Rattle.start_spec.specs.Round.{row_text}
use Rattle.write_items.proofs.Laws.{then, length-written}
use Rattle.write_report.specs.Lines.{fields_part}
use borrow.Author.Rules.{rules}
use Rattle.write_report.proofs.start.write_row.Statement.{statement}
use Rattle.write_report.proofs.start.write_row.Tie as tie

returns : tie.Need-returns
unfolding row_text fields_part
returns c =
    let end = c in
    let last = c in
    then (then last.write_fields-at.ensures last.write_last-at.ensures) end.write_byte.ensures

pub write_row_spec : {M : Type 1} → statement M
write_row_spec = tie.close (tie.spec
    (λ c κs. search rules) (λ c κs. search rules) (λ c κs. search rules) (λ c. length-written (returns c)) returns)
