use Rattle.write_items.proofs.Laws.{next, used-fits}
use Rattle.write_report.specs.Lines.{head_part}
use borrow.Author.Rules.{rules}
use Rattle.write_report.proofs.write_head.Statement.{statement}
use Rattle.write_report.proofs.write_head.Tie as tie

returns : tie.Need-returns
unfolding head_part
returns c =
    let next-line = c in
    let ending = c in
    next (next ending.write_count-used.ensures ending.write_ending-used.ensures) next-line.write_count.ensures

pub write_head_spec : {M : Type 1} → statement M
write_head_spec =
    tie.close
    (tie.spec
    (λ c κs. search rules) (λ c. search rules) (λ c. search rules) (λ c. search rules) (λ c κs. search rules) (λ c. search rules) (λ c. search rules)
    (λ c. search rules) (λ c. search rules) (λ c κs. search rules) (λ c. used-fits (returns c) (search rules)) (λ c. search rules) returns)
