use mathlib.Core.Path.{◌∙◌}
use Rattle.write_texts.proofs.Whole.{sheet-numbers}
use borrow.Author.Rules.{rules}
use Rattle.write_texts.proofs.faults.sheet_fault.Statement.{statement}
use Rattle.write_texts.proofs.faults.sheet_fault.Tie as tie

pub sheet_fault_spec : {M : Type 1} → statement M
sheet_fault_spec =
    tie.close
    (tie.spec
    (λ c κs. search rules) (λ c κs. search rules) (λ c κs. search rules) (λ c κs. search rules) (λ c κs. search rules) (λ c κs. search rules)
    (λ c κs. search rules) (λ c κs. search rules) (λ c κs. search rules)
    (λ c. let p = c in let d = c in let e = c in
    c.or_number-3.ensures ∙ rw (c.or_number-2.ensures, c.or_number.ensures, p.part_fault-rows.ensures, p.part_fault-lines.ensures, d.limit_fault-deep.ensures, d.depth.ensures, e.edition_fault-first.ensures, e.edition.ensures) (sheet-numbers _ _)))
