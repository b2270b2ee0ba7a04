use Rattle.report_spec.specs.Report.{instance_text}
use Rattle.write_items.proofs.Laws.{then, length-written}
use Rattle.write_report.specs.Lines.{fields_part}
use borrow.Author.Rules.{rules}
use Rattle.write_report.proofs.write_instance.Statement.{statement}
use Rattle.write_report.proofs.write_instance.Tie as tie

returns : tie.Need-returns
unfolding instance_text fields_part
returns c =
    let end = c in
    then end.write_fields-at.ensures end.write_byte.ensures

pub write_instance_spec : {M : Type 1} → statement M
write_instance_spec = tie.close (tie.spec
    (λ c κs. search rules) (λ c κs. search rules) (λ c. length-written (returns c)) returns)
