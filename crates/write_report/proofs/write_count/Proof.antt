use borrow.Author.Rules.{rules}
use Rattle.item_spec.specs.Write.{one_text}
use Rattle.report_spec.specs.Report.{count_text}
use Rattle.write_items.proofs.Laws.{then}
use Rattle.write_report.proofs.write_count.Statement.{statement}
use Rattle.write_report.proofs.write_count.Tie as tie

pub write_count_spec : {M : Type 1} → statement M
unfolding count_text one_text
write_count_spec =
    tie.close
    (tie.spec
    (λ c κs. search rules) (λ c κs. search rules) (λ c κs. search rules) (λ c. search rules)
    (λ c.
    let end = c in
    let number = c in
    let key = c in
    then key.write_key-at.ensures (then number.write_number-at.ensures end.write_byte.ensures)))
