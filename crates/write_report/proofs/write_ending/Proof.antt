use Rattle.write_items.proofs.Laws.{next}
use Rattle.write_report.specs.Lines.{ending_part}
use borrow.Author.Rules.{rules}
use Rattle.write_report.proofs.write_ending.Statement.{statement}
use Rattle.write_report.proofs.write_ending.Tie as tie

pub write_ending_spec : {M : Type 1} → statement M
unfolding ending_part
write_ending_spec =
    tie.close
    (tie.spec
    (λ c κs. search rules) (λ c. search rules) (λ c. search rules) (λ c. search rules) (λ c κs. search rules) (λ c. search rules) (λ c. search rules)
    (λ c. let port = c in next port.write_count-used.ensures port.write_port.ensures))
