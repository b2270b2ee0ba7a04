use Rattle.write_items.proofs.Laws.{next, used-fits}
use Rattle.write_texts.proofs.Whole.{sheet-parts}
use borrow.Author.Rules.{rules}
use Rattle.write_texts.proofs.lines_of.put_sheet.Statement.{statement}
use Rattle.write_texts.proofs.lines_of.put_sheet.Tie as tie

pub put_sheet_spec : {M : Type 1} → statement M
put_sheet_spec =
    tie.close
    (tie.spec
    (λ c κs. search rules) (λ c κs. search rules) (λ c κs. search rules) (λ c. search rules) (λ c. search rules) (λ c. search rules)
    (λ c κs. search rules) (λ c. search rules) (λ c. search rules) (λ c. search rules) (λ c. search rules) (λ c κs. search rules)
    (λ c. used-fits (next (next c.put_first-used.ensures c.put_part-used.ensures) c.put_part.ensures) (search rules)) (λ c. search rules)
    (λ c. rw (sheet-parts _ _) at (rw (c.depth.ensures, c.edition.ensures) at (next (next c.put_first-used.ensures c.put_part-used.ensures) c.put_part.ensures))))
